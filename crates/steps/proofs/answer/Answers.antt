-- `steps::answer` meets its contract: each case is its call.
use Rattle.steps.proofs.answer.Goals as goal

pub returns-in-Copy : goal.returns-in-Copy
returns-in-Copy c = rw c.in-Copy.is c.copy.ensures

pub returns-in-Clear : goal.returns-in-Clear
returns-in-Clear c = rw c.in-Clear.is c.clear.ensures

pub returns-in-New : goal.returns-in-New
returns-in-New c = rw c.in-New.is c.new.ensures

pub returns-in-Left : goal.returns-in-Left
returns-in-Left c = rw c.in-Left.is c.left.ensures

pub returns-in-Right : goal.returns-in-Right
returns-in-Right c = rw c.in-Right.is c.right.ensures

pub returns-in-SetLeft : goal.returns-in-SetLeft
returns-in-SetLeft c = rw c.in-SetLeft.is c.set_left.ensures

pub returns-in-SetRight : goal.returns-in-SetRight
returns-in-SetRight c = rw c.in-SetRight.is c.set_right.ensures

pub returns-in-SetValue : goal.returns-in-SetValue
returns-in-SetValue c = rw c.in-SetValue.is c.set_value.ensures

pub returns-in-Value : goal.returns-in-Value
returns-in-Value c = rw c.in-Value.is c.value.ensures

pub returns-in-Same : goal.returns-in-Same
returns-in-Same c = rw c.in-Same.is c.same.ensures

pub returns-in-Collect : goal.returns-in-Collect
returns-in-Collect c = rw c.in-Collect.is c.collect.ensures

pub returns-in-Point : goal.returns-in-Point
returns-in-Point c = rw c.in-Point.is c.point.ensures

pub returns-in-East : goal.returns-in-East
returns-in-East c = rw c.in-East.is c.east.ensures

pub returns-in-North : goal.returns-in-North
returns-in-North c = rw c.in-North.is c.north.ensures

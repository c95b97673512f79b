-- `runner::run_line` meets its contract: the line is run, and with room its reply is put.
use Rattle.runner.proofs.Working.{replied, line-run}
use Rattle.runner.proofs.run_line.Goals as goal

pub unwrap-put-requires : goal.unwrap-put-requires
unwrap-put-requires c = replied _ _ _ c.requires _ _ c.write_reply.ensures

pub returns : goal.returns
returns c =
    line-run _ _ _ _ c.args.p _ _ _ _ c.requires c.execute-turn.ensures _ _ c.new.ensures (rw c.unwrap-put.ensures at c.write_reply.ensures)
    c.write_reply.auto.out

-- The recursive marker (01, "Bench marker": "For N up to 64, the recursive procedure of 000 collects; answer and pool are those of collect").
use Rattle.std.specs.Prelude.{ℕ, List, cond, leb}
use Rattle.questions.specs.Questions.{sized_of, admitted_to}
use Rattle.answers.specs.Outcome.{Outcome, refused}
use Rattle.collector.specs.Collect.{collect_in}

-- "N up to 64"
abbrev pub recursion_limit : ℕ
recursion_limit = 64

-- The call: the first question, "N at most 64? No: 11", and then the same collection as `collect`'s.
abbrev pub recursive_of : List ℕ → Outcome × List ℕ
recursive_of w = admitted_to (λ n. cond (leb n recursion_limit) (collect_in n w) (refused 11, w)) (λ k. (refused k, w)) (sized_of w)

-- The proofs of the statements of specs/Equivalence.antt.
use Prim.Native.Nat.{ℕ}
use mathlib.Core.Path.{sym, ap, subst}
use mathlib.Core.Logic.{⊎_elim}
use mathlib.Core.List.Memᴰ
use mathlib.Core.List.{List, [], ◌∷◌, Memᴰ}
use Rattle.answers.specs.Outcome.{Outcome}
use Rattle.calls.specs.declared.Call.{Call}
use Rattle.batch.specs.Run.{answer_words}
use Rattle.reference.specs.Model.{Model, empty, model_of}
use Rattle.reference.specs.Equivalence.{model_answers, Equivalence, EquivalenceAtLimit, NeverMalformed}
use Rattle.invariant.proofs.Rebuilt.{fresh_inv}
use Rattle.reference.proofs.Start.{fresh_rep}
use Rattle.reference.proofs.Runs.{compared, none_at_limit}
use Rattle.reference.proofs.Plain.{Plain, plain_mild, plain_model}

pub equivalence : Equivalence
equivalence N e L lent calls fits =
    let both-are = compared N L calls (fresh_inv N e lent fits) (fresh_rep N e lent fits) in
    (λ e. both-are.none (ap answer_words e), both-are.equal)

pub equivalence_at_limit : EquivalenceAtLimit
equivalence_at_limit N e lent calls fits = (equivalence N e N lent calls fits).1 (none_at_limit N calls empty)

-- The reference model never refuses with 1 or 3.
answers_plain : (L : ℕ) (calls : List Call) (m : Model) (o : Outcome) → Memᴰ o (model_answers L calls m) → Plain o
unfolding model_answers
answers_plain L [] m o mem = absurd (Memᴰ.not-nil mem)
answers_plain L (c ∷ cs) m o mem =
    ⊎_elim (λ e. subst Plain (sym e) (plain_model m L c)) (answers_plain L cs (model_of L c m).1 o) (Memᴰ.cases_cons mem)

pub never_malformed : NeverMalformed
never_malformed N e lent calls fits o mem =
    plain_mild (answers_plain N calls empty o (subst (Memᴰ o) (equivalence_at_limit N e lent calls fits) mem))

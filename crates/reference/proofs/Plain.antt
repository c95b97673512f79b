-- The answers of the reference model: none is an allocation, and none is refused with 1 or 3.
use Prim.Native.Nat.{ℕ}
use native.Mathlib.Omega.{arith}
use mathlib.Core.Path.{◌≡◌, refl}
use mathlib.Core.List.{List}
use mathlib.Core.Bool.{Bool, true, false, cond, not}
use lib.Dec.{eqb, leb}
use Rattle.questions.specs.Questions.{are_registers}
use Rattle.answers.specs.Outcome.{Outcome, answered, refused}
use Rattle.calls.specs.declared.Call.{Call}
use Rattle.calls.specs.declared.Call.TheVariants as call
use Rattle.calls.specs.Calls.{registers_of}
use Rattle.reference.specs.Model.{Model, entry, held, live, on_cell, on_kind, model_body, model_of}
use Rattle.reference.specs.Equivalence.{observed}

pub data Plain : Outcome → Type 0 where
  numbers : (xs : List ℕ) → Plain (answered xs)
  refusal : (k : ℕ) → (k ≡ 1 → ⊥) → (k ≡ 3 → ⊥) → Plain (refused k)

-- So all of such an answer is observed.
pub plain_observed : {o : Outcome} → Plain o → observed o ≡ o
plain_observed (numbers xs) = refl
plain_observed (refusal k one three) = refl

pub plain_mild : {o : Outcome} → Plain o → (o ≡ refused 1 → ⊥) × (o ≡ refused 3 → ⊥)
plain_mild (numbers xs) =
    (λ e. let z : ◌≡◌ {A = ℕ} 0 1 = cc in omega arith, λ e. let z : ◌≡◌ {A = ℕ} 0 1 = cc in omega arith)
plain_mild (refusal k one three) = (λ e. one (cc), λ e. three (cc))

module _ (m : Model) where
  plain_cond : (t : Bool) (k : ℕ) → (k ≡ 1 → ⊥) → (k ≡ 3 → ⊥) → (p : Outcome × Model) → Plain p.0 → Plain (cond t (refused k, m) p).0
  plain_cond true k one three p h = refusal k one three
  plain_cond false k one three p h = h

  plain_on_cell : (a : ℕ) (p : Outcome × Model) → Plain p.0 → Plain (on_cell m a (λ e. p)).0
  plain_on_cell a p h = plain_cond (eqb (held m a) 0) 4 (λ e. omega arith) (λ e. omega arith) p h

  plain_on_kind : (point : Bool) (a : ℕ) (p : Outcome × Model) → Plain p.0 → Plain (on_kind point m a (λ e. p)).0
  plain_on_kind point a p h = plain_on_cell a _ (go (cond (entry m (held m a)).point point (not point)))
    where
      go : (t : Bool) → Plain (cond t p (refused 13, m)).0
      go true = h
      go false = refusal 13 (λ e. omega arith) (λ e. omega arith)

  pub plain_body : (L : ℕ) (c : Call) → Plain (model_body L c m).0
  plain_body L (call.Copy r a) = numbers _
  plain_body L (call.Clear r) = numbers _
  plain_body L (call.New r a b v) = plain_cond (leb L (live m)) 5 (λ e. omega arith) (λ e. omega arith) _ (numbers _)
  plain_body L (call.Left r a) = plain_on_kind false a _ (numbers _)
  plain_body L (call.Right r a) = plain_on_kind false a _ (numbers _)
  plain_body L (call.SetLeft a b) = plain_on_kind false a _ (numbers _)
  plain_body L (call.SetRight a b) = plain_on_kind false a _ (numbers _)
  plain_body L (call.SetValue a v) = plain_on_cell a _ (numbers _)
  plain_body L (call.Value a) = plain_on_cell a _ (numbers _)
  plain_body L (call.Same a b) = numbers _
  plain_body L call.Collect = numbers _
  plain_body L (call.Point r v x y) = plain_cond (leb L (live m)) 5 (λ e. omega arith) (λ e. omega arith) _ (numbers _)
  plain_body L (call.East a) = plain_on_kind true a _ (numbers _)
  plain_body L (call.North a) = plain_on_kind true a _ (numbers _)

  pub plain_model : (L : ℕ) (c : Call) → Plain (model_of L c m).0
  plain_model L c = go (are_registers (registers_of c))
    where
      go : (t : Bool) → Plain (cond t (model_body L c m) (refused 2, m)).0
      go true = plain_body L c
      go false = refusal 2 (λ e. omega arith) (λ e. omega arith)

-- From the contract of a call to that of its C function.
use Prim.Native.Nat.{ℕ}
use mathlib.Core.Path.{◌≡◌, sym, ap, ◌∙◌}
use Rattle.answers.specs.Outcome.{Outcome, answered, allocated, refused, status, given}
use mathlib.Core.List.{List}
use Rattle.collector.specs.Collect.{collect_of}
use Rattle.tally.specs.declared.Tally.{Tally}
use Rattle.std.proofs.Common.{Result}
use Rattle.answers.specs.declared.Refusal.{Refusal}
use Rattle.stack_marker.specs.declared.StackCollection.{StackCollection}
use Rattle.stack_marker.specs.StackCollect.{stack_outcome}
use Rattle.tally.specs.TallyOf.{tally_after, tally_of}
use Rattle.cellpool.specs.Interface.{giving_none, giving, giving_two, tallying, with_stack, number, numbers}

module _ {A : Type 0} (o : Outcome) (left : A) (x : Outcome × A) (call : ◌≡◌ {A = Outcome × A} (o, left) x) (q : ℕ) where
  pub giving_none_made : q ≡ status o → ◌≡◌ {A = ℕ × A} (q, left) (giving_none x)
  giving_none_made said = ap (λ (n : ℕ). (n, left)) said ∙ ap giving_none call

  pub giving_made : (v old : ℕ) → ◌≡◌ {A = ℕ × ℕ} (q, v) (number o old) → ◌≡◌ {A = ℕ × A × ℕ} (q, left, v) (giving x old)
  giving_made v old said = ap (λ (p : ℕ × ℕ). (p.0, left, p.1)) said ∙ ap (λ (y : Outcome × A). giving y old) call

  pub giving_two_made : (v u old₀ old₁ : ℕ) → ◌≡◌ {A = ℕ × ℕ × ℕ} (q, v, u) (numbers o old₀ old₁)
      → ◌≡◌ {A = ℕ × A × ℕ × ℕ} (q, left, v, u) (giving_two x old₀ old₁)
  giving_two_made v u old₀ old₁ said =
      ap (λ (p : ℕ × ℕ × ℕ). (p.0, left, p.1, p.2)) said ∙ ap (λ (y : Outcome × A). giving_two y old₀ old₁) call

-- the same of the collection with a lent stack
pub stack_made : (w stack : List ℕ) (answer : Result StackCollection Refusal) (x : Outcome × List ℕ × List ℕ) → ◌≡◌ {A = Outcome × List ℕ × List ℕ} (stack_outcome answer, w, stack) x
    → {answer' : Result StackCollection Refusal} → answer ≡ answer' → (q v u t old₀ old₁ old₂ : ℕ) → q ≡ status (stack_outcome answer') → v ≡ given (stack_outcome answer') 0 old₀
    → u ≡ given (stack_outcome answer') 1 old₁ → t ≡ given (stack_outcome answer') 2 old₂
    → ◌≡◌ {A = ℕ × List ℕ × List ℕ × ℕ × ℕ × ℕ} (q, w, stack, v, u, t) (with_stack x old₀ old₁ old₂)
stack_made w stack answer x call was q v u t old₀ old₁ old₂ said first second third =
    rw (said, first, second, third, sym was) (ap (λ (y : Outcome × List ℕ × List ℕ). with_stack y old₀ old₁ old₂) call)

-- the same of the collection with a tally: accepted, and refused
module _ (w w' : List ℕ) (t : Tally) (o : Outcome) (call : ◌≡◌ {A = Outcome × List ℕ} (o, w') (collect_of w)) (q old₀ old₁ : ℕ) where
  tallied : ◌≡◌ {A = ℕ × List ℕ × ℕ × ℕ × ℕ × ℕ} (tallying (o, w', tally_after t o) old₀ old₁) (tallying (tally_of w t) old₀ old₁)
  tallied = ap (λ (y : Outcome × List ℕ). tallying (y.0, y.1, tally_after t y.0) old₀ old₁) call

  pub tally_advanced : (t' : Tally) → t' ≡ tally_after t o → (v u : ℕ) → ◌≡◌ {A = ℕ × ℕ × ℕ} (q, v, u) (numbers o old₀ old₁)
      → ◌≡◌ {A = ℕ × List ℕ × ℕ × ℕ × ℕ × ℕ} (q, w', t'.collections, t'.visits, v, u) (tallying (tally_of w t) old₀ old₁)
  tally_advanced t' counted v u said =
      ap (λ (p : ℕ × ℕ × ℕ). (p.0, w', t'.collections, t'.visits, p.1, p.2)) said ∙ rw counted tallied

  pub tally-left : q ≡ status o → (q ≡ 0 → ⊥)
      → ◌≡◌ {A = ℕ × List ℕ × ℕ × ℕ × ℕ × ℕ} (q, w', t.collections, t.visits, old₀, old₁) (tallying (tally_of w t) old₀ old₁)
  tally-left said refusing = leaves o said ∙ tallied
    where
      leaves : (p : Outcome) → q ≡ status p
          → ◌≡◌ {A = ℕ × List ℕ × ℕ × ℕ × ℕ × ℕ} (q, w', t.collections, t.visits, old₀, old₁) (tallying (p, w', tally_after t p) old₀ old₁)
      leaves (answered xs) e = absurd (refusing e)
      leaves (allocated visits) e = absurd (refusing e)
      leaves (refused k) e = rw e

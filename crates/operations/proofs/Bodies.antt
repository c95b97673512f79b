-- A body whose steps went as the equations say leaves what its definition leaves.
use Prim.Native.Nat.{ℕ, ◌<◌, ◌≤◌}
use native.Mathlib.Omega.{arith}
use mathlib.Core.Path.{◌≡◌, refl, sym, ap, ◌∙◌}
use mathlib.Core.List.{List, [], ◌∷◌}
use mathlib.Core.Bool.{Bool, true, false, cond, not}
use lib.Dec.{eqb}
use Rattle.std.specs.Int.{from_bool}
use Rattle.answers.proofs.Flags.{flag_number}
use borrow.Author.Tests.{eq-eqb, ne_eqb, eqb-false}
use Rattle.pool.specs.Layout.{register_count, register, set_register, cell, set_cell, state}
use Rattle.pool.specs.States.{is_used}
use Rattle.questions.specs.Validity.{valid_link}
use Rattle.questions.specs.Questions.{holds_link}
use Rattle.answers.specs.Outcome.{Outcome, answered, refused, refusal_number}
use Rattle.answers.specs.declared.Refusal.{Refusal}
use Rattle.answers.specs.declared.Refusal.TheVariants as refusal
use Rattle.std.proofs.Common.{Result, Ok, Err}
use Rattle.operations.specs.Operations.{held_cell_of, is_of_kind, of_kind, held_kind_of, cell_to, with_kind, copy_in, link_in, same_in}
use Rattle.questions.proofs.RegisterLinks.{Holds, holds_cell}

module _ (n : ℕ) (w : List ℕ) {a x : ℕ} (h : Holds n w a x) where
  pub copied : (r : ℕ) {w' : List ℕ} → w' ≡ set_register w r x → (answered [], w') ≡ copy_in n w r a
  copied r e = simp (h.link, h.valid, e)

  pub same_told : {b y : ℕ} → Holds n w b y → {q : ℕ} → q ≡ from_bool (eqb x y) → (answered (q ∷ []), w) ≡ same_in n w a b
  same_told {y = y} k e = simp (h.link, k.link, h.valid, k.valid) (ap (λ (v : ℕ). (answered (v ∷ []), w)) (e ∙ flag_number (eqb x y)))

  pub same-malformed : (b : ℕ) → holds_link n w b ≡ false → (refused 3, w) ≡ same_in n w a b
  same-malformed b not = simp (not, h.link, h.valid)

  -- Whether that link leads to a cell.
  pub held-nil : x ≡ 0 → Err refusal.Nil ≡ held_cell_of n w a
  held-nil nil = simp (h.link, h.valid) (simp (eq-eqb x 0 nil))

  pub held-cell : (x ≡ 0 → ⊥) → Ok x ≡ held_cell_of n w a
  held-cell some = simp (h.link, h.valid) (simp (ne_eqb x 0 some))

  -- setleft and setright, where that link is the one to be stored in b's cell.
  pub stored : (field b : ℕ) {p : Outcome × List ℕ} → p ≡ with_kind false n w b (λ y. (answered [], set_cell register_count w y field x)) → p ≡ link_in n w field b a
  stored field b e = simp (h.link, h.valid) e

-- What follows the question whether a holds a cell.
module _ (n : ℕ) (w : List ℕ) (a : ℕ) {q : Result ℕ Refusal} (read : q ≡ held_cell_of n w a) where
  pub cell-used : {x : ℕ} → q ≡ Ok x → (0 < x) × (x ≤ n) × (is_used (state register_count w x) ≡ true)
  cell-used {x} told = go (holds_link n w a) (eqb (register w a) 0) refl refl (sym read ∙ told)
    where
      go : (s t : Bool) → holds_link n w a ≡ s → eqb (register w a) 0 ≡ t
          → cond s (cond t (Err refusal.Nil) (Ok (register w a))) (Err refusal.Malformed) ≡ Ok x
          → (0 < x) × (x ≤ n) × (is_used (state register_count w x) ≡ true)
      go true true valid nil same = let z : ◌≡◌ {A = ℕ} 0 1 = cc in absurd (omega arith)
      go true false valid some same =
          let link : register w a ≡ x = cc in
          let holds : Holds n w a x = record { link = link; valid = rw link at valid } in
          holds_cell holds (rw link at (eqb-false (register w a) 0 some))
      go false t valid nil same = let z : ◌≡◌ {A = ℕ} 0 1 = cc in absurd (omega arith)

  pub cell_there : {x : ℕ} → q ≡ Ok x → (0 < x) × (x ≤ n)
  cell_there told = ((cell-used told).0, (cell-used told).1)

-- What follows the question of which kind it is.
module _ (point : Bool) (n : ℕ) (w : List ℕ) (a : ℕ) {q : Result ℕ Refusal} (read : q ≡ held_kind_of point n w a) where
  pub kind_there : {x : ℕ} → q ≡ Ok x → (0 < x) × (x ≤ n)
  kind_there {x} told = go (held_cell_of n w a) refl (sym read ∙ told)
    where
      go : (h : Result ℕ Refusal) → h ≡ held_cell_of n w a → of_kind point w h ≡ Ok x → (0 < x) × (x ≤ n)
      go (Ok y) e same = of (is_of_kind point w y) same
        where
          of : (t : Bool) → cond t (Ok y) (Err refusal.Kind) ≡ Ok x → (0 < x) × (x ≤ n)
          of true h = cell_there n w a e h
          of false h = let z : ◌≡◌ {A = ℕ} 0 1 = cc in absurd (omega arith)
      go (Err k) e same = let z : ◌≡◌ {A = ℕ} 0 1 = cc in absurd (omega arith)

-- The kind of the cell that is held, once it is asked.
module _ (point : Bool) (n : ℕ) (w : List ℕ) (a : ℕ) {q : Result ℕ Refusal} (read : q ≡ held_cell_of n w a) where
  pub kind-told : {x : ℕ} → q ≡ Ok x → {t : Bool} → t ≡ is_of_kind point w x
      → cond t (Ok x) (Err refusal.Kind) ≡ held_kind_of point n w a
  kind-told {x} told e = ap (λ (t : Bool). cond t (Ok x) (Err refusal.Kind)) e ∙ ap (of_kind point w) (sym told ∙ read)

  pub kind-none : {k : Refusal} → q ≡ Err k → Err k ≡ held_kind_of point n w a
  kind-none told = ap (of_kind point w) (sym told ∙ read)

-- The body runs on the cell that is found, and not where none is.
module _ (w : List ℕ) {h q : Result ℕ Refusal} (read : q ≡ h) (body : ℕ → Outcome × List ℕ) where
  pub with_cell_lem : {x : ℕ} → q ≡ Ok x → {p : Outcome × List ℕ} → p ≡ body x → p ≡ cell_to w body h
  with_cell_lem told done = done ∙ ap (cell_to w body) (sym told ∙ read)

  pub with_none : {k : Refusal} → q ≡ Err k → (refused (refusal_number k), w) ≡ cell_to w body h
  with_none told = ap (cell_to w body) (sym told ∙ read)

-- left and right, on cell x, whose link was read.
abbrev follow_body : ℕ → List ℕ → ℕ → ℕ → ℕ → Outcome × List ℕ
follow_body n w field r x =
    cond (valid_link register_count n w (cell register_count w x field)) (answered [], set_register w r (cell register_count w x field)) (refused 3, w)

module _ (n : ℕ) (w : List ℕ) (field r x : ℕ) {y : ℕ} (read : y ≡ cell register_count w x field) where
  pub followed : valid_link register_count n w y ≡ true → {w' : List ℕ} → w' ≡ set_register w r y
      → (answered [], w') ≡ follow_body n w field r x
  followed valid e = simp (← read, valid, e)

  pub follow_malformed : valid_link register_count n w y ≡ false → (refused 3, w) ≡ follow_body n w field r x
  follow_malformed valid = simp (← read, valid)

-- The numbers of a well-formed pool's links: nil has none, and no two cells that are reached have the same.
use Prim.Native.Nat.{ℕ, ◌-◌, ◌<◌}
use native.Mathlib.Omega.{arith}
use mathlib.Core.Path.{◌≡◌, sym, ap, ◌∙◌}
use mathlib.Core.Logic.{⊎_elim}
use mathlib.Core.List.{List, Memᴰ}
use lib.ListN.{get_or}
use Rattle.graph.specs.Graph.{Reach}
use Rattle.graph.proofs.Marks.{zero_or_above}
use Rattle.graph.proofs.Reached.{reach_above}
use Rattle.graph.proofs.Theorems.{preorder-reached}
use Rattle.pool.specs.Layout.{graph_of, roots_of}
use Rattle.questions.proofs.WellFormed.{WellFormed}
use Rattle.questions.proofs.PoolGraph.{pool-within}
use Rattle.reversal.specs.Reached.{reached_cells}
use Rattle.image.specs.Image.{number_in}
use Rattle.numbering.proofs.Numbering.{place_none, number-member, number_placed}

-- A link that is nil or leads to a cell that is reached.
abbrev pub NilOrReached : ℕ → List ℕ → ℕ → Type 0
NilOrReached R w x = 0 < x → Reach (graph_of R w) (roots_of R w) x

module _ {R n : ℕ} {w : List ℕ} (well : WellFormed R n w) where
  pub reached-member : (x : ℕ) → Reach (graph_of R w) (roots_of R w) x → Memᴰ x (reached_cells R n w)
  reached-member x = (preorder-reached n (graph_of R w) (roots_of R w) (pool-within well) x).1

  pub nil-number : number_in (reached_cells R n w) 0 ≡ 0
  nil-number =
      place_none 1 (reached_cells R n w) 0
      (λ h. omega (arith, reach_above ((preorder-reached n (graph_of R w) (roots_of R w) (pool-within well) 0).0 h)))

  pub number-nil : (x : ℕ) → NilOrReached R w x → number_in (reached_cells R n w) x ≡ 0 → x ≡ 0
  number-nil x reached e =
      ⊎_elim (λ z. z) (λ some. absurd (omega (arith, number-member (reached_cells R n w) x (reached-member x (reached some))))) (zero_or_above x)

  pub number-one : (x y : ℕ) → NilOrReached R w x → NilOrReached R w y → number_in (reached_cells R n w) x ≡ number_in (reached_cells R n w) y → x ≡ y
  number-one x y reached reached' e =
      let order = reached_cells R n w in
      ⊎_elim (λ none. number-nil x reached none ∙ sym (number-nil y reached' (sym e ∙ none)))
      (λ some.
      sym (number_placed order x some).named
      ∙ (ap (λ (k : ℕ). get_or order (k - 1) 0) e ∙ (number_placed order y (omega (arith, e))).named))
      (zero_or_above (number_in order x))

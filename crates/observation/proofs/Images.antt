-- Two pools whose graphs are paired one-to-one, with the same content of paired cells, have the same image.
use Prim.Native.Nat.{ℕ, ◌-◌, ◌<◌}
use native.Mathlib.Omega.{arith}
use mathlib.Core.Path.{◌≡◌, refl, sym, ap, ◌∙◌}
use mathlib.Core.Bool.{Bool, true, false}
use mathlib.Core.Logic.{⊎_elim}
use mathlib.Core.List.{List}
use lib.ListN.{length, get_or}
use lib.Seq.{ext_get_or}
use Rattle.graph.specs.Compare.{Paired, OneToOne}
use Rattle.graph.proofs.Lists.{get_or-member}
use Rattle.graph.proofs.Marks.{zero_or_above}
use Rattle.graph.proofs.Reached.{reach_above}
use Rattle.graph.proofs.Theorems.{preorder-reached, preorder-distinct}
use Rattle.graph.proofs.Pairing.{paired_reach, preorder-paired, length-paired}
use Rattle.pool.specs.Layout.{register_count, register, cell, is_point_at, link_of, graph_of, roots_of}
use Rattle.pool.proofs.Links.{link-pair}
use Rattle.pool.proofs.Every.{length-tabulate, get_or-tabulate}
use Rattle.questions.proofs.WellFormed.{WellFormed}
use Rattle.questions.proofs.PoolGraph.{pool-within}
use Rattle.reversal.specs.Reached.{reached_cells}
use Rattle.image.specs.Kinds.{kind_of}
use Rattle.image.specs.Image.{number_in, saved_word, saved_cell, saved_image}
use Rattle.load.proofs.Putting.{no_cell}
use Rattle.numbering.proofs.Numbering.{number-member, Placed, number_placed, number_at}
use Rattle.numbering.proofs.PoolNumbers.{reached-member, nil-number}
use Rattle.save.proofs.SavedImage.{image-registers, image-cells, image-register, image-cell}
use Rattle.observation.proofs.Related.{PairedLinks, BothFields, SameContent}

module _ (n m : ℕ) (w v : List ℕ) (well : WellFormed register_count n w) (well' : WellFormed register_count m v) where
  abbrev order : List ℕ
  order = reached_cells register_count n w

  abbrev order' : List ℕ
  order' = reached_cells register_count m v

  module _ (o : OneToOne (PairedLinks w v)) (content : (x y : ℕ) → PairedLinks w v x y → 0 < x → 0 < y → SameContent BothFields w v x y) where
    same-roots : length (roots_of register_count w) ≡ length (roots_of register_count v)
    same-roots = length-tabulate register_count (λ k. register w k) ∙ sym (length-tabulate register_count (λ k. register v k))

    same_length : length order ≡ length order'
    same_length = length-paired n _ _ m _ _ (pool-within well) (pool-within well') same-roots o

    -- What stands at the same place of the two orders is paired.
    placed_pair : (p : ℕ) → p < length order → PairedLinks w v (get_or order p 0) (get_or order' p 0)
    placed_pair = preorder-paired n _ _ m _ _ (pool-within well) (pool-within well') same-roots o

    -- So two links that are paired have the same number.
    same_number : (x y : ℕ) → PairedLinks w v x y → number_in order x ≡ number_in order' y
    same_number x y pair = ⊎_elim none one (zero_or_above x)
      where
        none : x ≡ 0 → number_in order x ≡ number_in order' y
        none e = ap (number_in order) e ∙ (nil-number well ∙ sym (ap (number_in order') ((o.nil x y pair).0 e) ∙ nil-number well'))

        one : 0 < x → number_in order x ≡ number_in order' y
        one some =
            let place : Placed 1 order x = number_placed order x (number-member order x (reached-member well x (paired_reach pair some))) in
            let p = number_in order x - 1 in
            let below : p < length order = omega (arith, place.low, place.high) in
            let here : y ≡ get_or order' p 0 = o.forward x y (get_or order' p 0) pair (rw place.named at (placed_pair p below)) in
            omega (arith, place.low, ap (number_in order') here, number_at (preorder-distinct m (graph_of register_count v) (roots_of register_count v) (pool-within well')) p (omega (arith, same_length)))

    same-registers : (saved_image register_count w order).registers ≡ (saved_image register_count v order').registers
    same-registers =
        ext_get_or 0 _ _ (image-registers register_count w order ∙ sym (image-registers register_count v order')) λ k below.
        let low : k < register_count = omega (arith, image-registers register_count w order) in
        image-register register_count w order k low ∙ (same_number _ _ (held k low) ∙ sym (image-register register_count v order' k low))
      where
        held : (k : ℕ) → k < register_count → PairedLinks w v (register w k) (register v k)
        held k low =
            let root : PairedLinks w v (get_or (roots_of register_count w) k 0) (get_or (roots_of register_count v) k 0) =
            Paired.root k (omega (arith, length-tabulate register_count (λ j. register w j))) in
            rw (get_or-tabulate register_count (λ j. register w j) k 0 low, get_or-tabulate register_count (λ j. register v j) k 0 low) at root

    -- Two cells that are paired are saved as the same.
    same-cell : (x y : ℕ) → PairedLinks w v x y → 0 < x → 0 < y → saved_cell register_count w order x ≡ saved_cell register_count v order' y
    same-cell x y pair hx hy = λ j. record { kind = ap kind_of same.kind j; left = word 1 (omega arith, omega arith) (Paired.left pair hx hy) j; right = word 2 (omega arith, omega arith) (Paired.right pair hx hy) j; value = same.value j }
      where
        same : SameContent BothFields w v x y
        same = content x y pair hx hy

        word : (f : ℕ) → BothFields f → PairedLinks w v (link_of register_count w x f) (link_of register_count v y f)
            → saved_word (is_point_at register_count w x) order (cell register_count w x f) ≡ saved_word (is_point_at register_count v y) order' (cell register_count v y f)
        word f both links = rw (sym same.kind) (go (is_point_at register_count w x) refl)
          where
            go : (t : Bool) → is_point_at register_count w x ≡ t → saved_word t order (cell register_count w x f) ≡ saved_word t order' (cell register_count v y f)
            go true is = same.coordinates is f both
            go false is =
                same_number _ _ (rw (link-pair register_count w x f is, link-pair register_count v y f (sym same.kind ∙ is)) at links)

    same-cells : (saved_image register_count w order).cells ≡ (saved_image register_count v order').cells
    same-cells =
        ext_get_or no_cell _ _ (image-cells register_count w order ∙ (same_length ∙ sym (image-cells register_count v order'))) λ p below.
        let low : p < length order = omega (arith, image-cells register_count w order) in
        let low' : p < length order' = omega (arith, same_length) in
        image-cell register_count w order p low
        ∙ (same-cell _ _ (placed_pair p low) (above well p low) (above well' p low') ∙ sym (image-cell register_count v order' p low'))
      where
        above : {k : ℕ} {u : List ℕ} → WellFormed register_count k u → (p : ℕ) → p < length (reached_cells register_count k u)
            → 0 < get_or (reached_cells register_count k u) p 0
        above {k} {u} whole p low =
            reach_above ((preorder-reached k (graph_of register_count u) (roots_of register_count u) (pool-within whole) _).0 (get_or-member (reached_cells register_count k u) p low))

    pub same-image : saved_image register_count w order ≡ saved_image register_count v order'
    same-image = λ j. record { registers = same-registers j; cells = same-cells j }

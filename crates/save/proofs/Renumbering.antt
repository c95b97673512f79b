-- The graph of a loaded save: it is paired one-to-one with the saved graph, so its cells are visited in the order of their numbers.
use Prim.Native.Nat.{ℕ, zero, suc, ◌-◌, ◌<◌, ◌≤◌}
use native.Mathlib.Omega.{arith}
use mathlib.Core.Path.{◌≡◌, refl, sym, ap, ◌∙◌}
use mathlib.Core.Bool.{Bool, true, false}
use mathlib.Core.List.{List}
use lib.ListN.{length, get_or}
use Rattle.graph.specs.Graph.{Reach}
use Rattle.graph.specs.Compare.{Paired, OneToOne}
use Rattle.graph.proofs.Lists.{get_or-member}
use Rattle.graph.proofs.Theorems.{preorder-distinct}
use Rattle.graph.proofs.Pairing.{paired-least, preorder-paired, length-paired, pairing_kept}
use Rattle.pool.specs.Words.{tabulate}
use Rattle.pool.specs.Layout.{pool_length, register, cell, value, is_point_at, link_of, graph_of, roots_of}
use Rattle.pool.proofs.Links.{link-pair, link-point}
use Rattle.pool.proofs.Every.{length-tabulate, get_or-tabulate, tabulate-list}
use Rattle.questions.proofs.WellFormed.{WellFormed}
use Rattle.questions.proofs.PoolGraph.{pool-within}
use Rattle.reversal.specs.Reached.{reached_cells, reached_count}
use Rattle.pool.specs.States.{is_point_kind}
use Rattle.image.specs.declared.ImageCell.{ImageCell}
use Rattle.image.specs.Image.{number_in, saved_word, saved_cell, saved_image}
use Rattle.image.proofs.Images.{LinksWithin}
use Rattle.load.specs.Load.{loaded_words}
use Rattle.load.proofs.Putting.{image_field}
use Rattle.load.proofs.LoadedPool.{loaded-register, loaded-cell, loaded-kind, loaded-well_formed}
use Rattle.numbering.proofs.Numbering.{Placed, number_placed, number_at}
use Rattle.numbering.proofs.PoolNumbers.{NilOrReached, nil-number, number-nil, number-one}
use Rattle.save.proofs.SavedImage.{image-registers, image-cells, image-register, image-cell, kind-again}

module _ (R n : ℕ) (w : List ℕ) (m : ℕ) (few : reached_count R n w ≤ m) (words : List ℕ) (long : pool_length R m ≤ length words) where
  abbrev order : List ℕ
  order = reached_cells R n w

  -- The loaded words.
  abbrev pub loaded : List ℕ
  loaded = loaded_words R m (saved_image R w order) words

  room : length (saved_image R w order).cells ≤ m
  room = omega (arith, image-cells R w order)

  loaded_field : (p f : ℕ) → p < length order → suc f < 4 → cell R loaded (suc p) (suc f) ≡ image_field (saved_cell R w order (get_or order p 0)) (suc f)
  loaded_field p f below hf =
      loaded-cell R m (saved_image R w order) room (image-registers R w order) words long p f (omega (arith, image-cells R w order)) hf
      ∙ ap (λ (c : ImageCell). image_field c (suc f)) (image-cell R w order p below)

  -- A cell is of the kind that it was.
  pub renumbered-kind : (p : ℕ) → p < length order → is_point_at R loaded (suc p) ≡ is_point_at R w (get_or order p 0)
  renumbered-kind p below =
      loaded-kind R m (saved_image R w order) room (image-registers R w order) words long p (omega (arith, image-cells R w order))
      ∙ (ap (λ (c : ImageCell). is_point_kind c.kind) (image-cell R w order p below) ∙ kind-again (is_point_at R w (get_or order p 0)))

  pub renumbered-register : (k : ℕ) → k < R → register loaded k ≡ number_in order (register w k)
  renumbered-register k low =
      loaded-register R m (saved_image R w order) room (image-registers R w order) words long k low ∙ image-register R w order k low

  pub renumbered-word : (p f : ℕ) → p < length order → f < 2
      → cell R loaded (suc p) (suc f) ≡ saved_word (is_point_at R w (get_or order p 0)) order (cell R w (get_or order p 0) (suc f))
  renumbered-word p zero below hf = loaded_field p 0 below (omega arith)
  renumbered-word p (suc zero) below hf = loaded_field p 1 below (omega arith)
  renumbered-word p (suc (suc f)) below hf = absurd (omega arith)

  pub renumbered-value : (p : ℕ) → p < length order → value R loaded (suc p) ≡ value R w (get_or order p 0)
  renumbered-value p below = loaded_field p 2 below (omega arith)

  module _ (well : WellFormed R n w) (links : LinksWithin (saved_image R w order)) where
    loaded-well : WellFormed R m loaded
    loaded-well = loaded-well_formed R m (saved_image R w order) room (image-registers R w order) words long links

    -- A link of the saved pool, nil or reached, and its number.
    abbrev Numbers : ℕ → ℕ → Type 0
    Numbers x y = NilOrReached R w x × (y ≡ number_in order x)

    one_to_one : OneToOne Numbers
    one_to_one =
        record {
          nil = λ x y h. (λ e. h.1 ∙ (ap (number_in order) e ∙ nil-number well), λ e. number-nil well x h.0 (sym h.1 ∙ e));
          forward = λ x y z a b. a.1 ∙ sym b.1;
          backward = λ x y z a b. number-one well x y a.0 b.0 (sym a.1 ∙ b.1);
        }

    roots_numbered : (i : ℕ) → i < length (roots_of R w) → Numbers (get_or (roots_of R w) i 0) (get_or (roots_of R loaded) i 0)
    roots_numbered i below =
        let low : i < R = omega (arith, length-tabulate R (λ k. register w k)) in (
          Reach.root (get_or-member (roots_of R w) i below),
          get_or-tabulate R (λ k. register loaded k) i 0 low
              ∙ (renumbered-register i low ∙ ap (number_in order) (sym (get_or-tabulate R (λ k. register w k) i 0 low))),
        )

    links_numbered : (x y : ℕ) → Numbers x y → 0 < x → 0 < y
        → Numbers (link_of R w x 1) (link_of R loaded y 1) × Numbers (link_of R w x 2) (link_of R loaded y 2)
    links_numbered x y h hx hy =
        let reach = h.0 hx in ((Reach.left reach, link 0 (omega arith)), (Reach.right reach, link 1 (omega arith)))
      where
        p : ℕ
        p = y - 1

        placed : Placed 1 order x
        placed = number_placed order x (omega (arith, h.1))

        here : get_or order p 0 ≡ x
        here = ap (λ (k : ℕ). get_or order (k - 1) 0) h.1 ∙ placed.named

        this : y ≡ suc p
        this = omega arith

        below : p < length order
        below = omega (arith, placed.high, h.1)

        kind : is_point_at R loaded y ≡ is_point_at R w x
        kind = ap (is_point_at R loaded) this ∙ (renumbered-kind p below ∙ ap (is_point_at R w) here)

        word : (f : ℕ) → f < 2 → cell R loaded y (suc f) ≡ saved_word (is_point_at R w x) order (cell R w x (suc f))
        word f hf =
            ap (λ (k : ℕ). cell R loaded k (suc f)) this
            ∙ (renumbered-word p f below hf ∙ ap (λ (k : ℕ). saved_word (is_point_at R w k) order (cell R w k (suc f))) here)

        link : (f : ℕ) → f < 2 → link_of R loaded y (suc f) ≡ number_in order (link_of R w x (suc f))
        link f hf = go (is_point_at R w x) refl
          where
            go : (t : Bool) → is_point_at R w x ≡ t → link_of R loaded y (suc f) ≡ number_in order (link_of R w x (suc f))
            go true is = link-point R loaded y (suc f) (kind ∙ is) ∙ sym (ap (number_in order) (link-point R w x (suc f) is) ∙ nil-number well)
            go false is =
                link-pair R loaded y (suc f) (kind ∙ is)
                ∙ (word f hf
                ∙ (ap (λ (t : Bool). saved_word t order (cell R w x (suc f))) is ∙ ap (number_in order) (sym (link-pair R w x (suc f) is))))

    same-roots : length (roots_of R w) ≡ length (roots_of R loaded)
    same-roots = length-tabulate R (λ k. register w k) ∙ sym (length-tabulate R (λ k. register loaded k))

    pairs : OneToOne (Paired (graph_of R w) (roots_of R w) (graph_of R loaded) (roots_of R loaded))
    pairs = pairing_kept (graph_of R w) (roots_of R w) (graph_of R loaded) (roots_of R loaded) Numbers one_to_one roots_numbered links_numbered

    -- The cells of the loaded pool are visited as 1, 2, ..
    pub renumbered-order : reached_cells R m loaded ≡ tabulate (length order) suc
    renumbered-order =
        tabulate-list (length order) suc (reached_cells R m loaded) (sym same_length) λ i below.
        (paired-least Numbers roots_numbered links_numbered
        (preorder-paired n (graph_of R w) (roots_of R w) m (graph_of R loaded) (roots_of R loaded) (pool-within well) (pool-within loaded-well) same-roots pairs i below)).1
        ∙ number_at (preorder-distinct n (graph_of R w) (roots_of R w) (pool-within well)) i below
      where
        same_length : length order ≡ length (reached_cells R m loaded)
        same_length =
            length-paired n (graph_of R w) (roots_of R w) m (graph_of R loaded) (roots_of R loaded) (pool-within well) (pool-within loaded-well) same-roots pairs

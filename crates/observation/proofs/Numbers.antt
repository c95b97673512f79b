-- Two pools with the same image: links with the same number are related one-to-one.
use Prim.Native.Nat.{ℕ, ◌-◌, ◌<◌}
use native.Mathlib.Omega.{arith}
use mathlib.Core.Path.{◌≡◌, refl, sym, ap, ◌∙◌}
use mathlib.Core.Bool.{Bool, true, false}
use mathlib.Core.List.{List}
use lib.ListN.{get_or}
use Rattle.graph.specs.Graph.{Reach}
use Rattle.graph.specs.Compare.{OneToOne}
use Rattle.pool.specs.Layout.{register_count, register, cell, is_point_at, link_of, graph_of, roots_of}
use Rattle.pool.proofs.Links.{link-pair, link-point}
use Rattle.pool.proofs.Every.{member-tabulate}
use Rattle.questions.proofs.WellFormed.{WellFormed}
use Rattle.invariant.proofs.Standing.{each_link}
use Rattle.reversal.specs.Reached.{reached_cells}
use Rattle.pool.specs.States.{is_point_kind}
use Rattle.image.specs.declared.ImageCell.{ImageCell}
use Rattle.image.specs.Image.{Image, number_in, saved_word, saved_cell, saved_image}
use Rattle.load.proofs.Putting.{no_cell}
use Rattle.numbering.proofs.Numbering.{number-member, number_placed}
use Rattle.numbering.proofs.PoolNumbers.{NilOrReached, reached-member, nil-number, number-nil, number-one}
use Rattle.save.proofs.SavedImage.{image-register, image-cell, kind-again}
use Rattle.observation.proofs.Related.{BothFields, Related}

-- A link of a cell that is reached is nil or reached.
pub reach_link : (w : List ℕ) (x : ℕ) → Reach (graph_of register_count w) (roots_of register_count w) x → (f : ℕ) → 0 < f → f < 3
    → NilOrReached register_count w (link_of register_count w x f)
reach_link w x reach = each_link (λ f. NilOrReached register_count w (link_of register_count w x f)) (Reach.left reach) (Reach.right reach)

module _ (n m : ℕ) (w v : List ℕ) (well : WellFormed register_count n w) (well' : WellFormed register_count m v)
    (same : saved_image register_count w (reached_cells register_count n w) ≡ saved_image register_count v (reached_cells register_count m v)) where
  abbrev order : List ℕ
  order = reached_cells register_count n w

  abbrev order' : List ℕ
  order' = reached_cells register_count m v

  -- Two links, each nil or reached, with the same number.
  abbrev pub SameNumber : ℕ → ℕ → Type 0
  SameNumber x y = NilOrReached register_count w x × NilOrReached register_count v y × (number_in order x ≡ number_in order' y)

  pub one_to_one : OneToOne SameNumber
  one_to_one =
      record {
        nil = λ x y h. (
          λ e. number-nil well' y h.1 (sym h.2 ∙ (ap (number_in order) e ∙ nil-number well)),
          λ e. number-nil well x h.0 (h.2 ∙ (ap (number_in order') e ∙ nil-number well')),
        );
        forward = λ x y z a b. number-one well' y z a.1 b.1 (sym a.2 ∙ b.2);
        backward = λ x y z a b. number-one well x y a.0 b.0 (a.2 ∙ sym b.2);
      }

  registers : (k : ℕ) → k < register_count → SameNumber (register w k) (register v k)
  registers k low = (
    Reach.root (member-tabulate register_count (λ j. register w j) k low),
    Reach.root (member-tabulate register_count (λ j. register v j) k low),
    sym (image-register register_count w order k low)
        ∙ (ap (λ (i : Image). get_or i.registers k 0) same ∙ image-register register_count v order' k low),
  )

  -- Two cells with the same number are saved as the same.
  same-cell : (x y : ℕ) → SameNumber x y → 0 < x → saved_cell register_count w order x ≡ saved_cell register_count v order' y
  same-cell x y h hx =
      let some = number-member order x (reached-member well x (h.0 hx)) in
      let here = number_placed order x some in
      let here' = number_placed order' y (omega (arith, h.2)) in
      let p = number_in order x - 1 in
      let there : get_or order' p 0 ≡ y = ap (λ (k : ℕ). get_or order' (k - 1) 0) h.2 ∙ here'.named in
      ap (saved_cell register_count w order) (sym here.named)
      ∙ (sym (image-cell register_count w order p (omega (arith, here.high)))
      ∙ (ap (λ (i : Image). get_or i.cells p no_cell) same
      ∙ (image-cell register_count v order' p (omega (arith, here'.high, h.2)) ∙ ap (saved_cell register_count v order') there)))

  module _ (x y : ℕ) (h : SameNumber x y) (hx : 0 < x) (hy : 0 < y) where
    kind : is_point_at register_count w x ≡ is_point_at register_count v y
    kind = sym (kind-again (is_point_at register_count w x)) ∙ (ap (λ (c : ImageCell). is_point_kind c.kind) (same-cell x y h hx) ∙ kind-again (is_point_at register_count v y))

    word : (f : ℕ) → 0 < f → f < 3
        → saved_word (is_point_at register_count w x) order (cell register_count w x f) ≡ saved_word (is_point_at register_count v y) order' (cell register_count v y f)
    word =
        each_link
        (λ f. saved_word (is_point_at register_count w x) order (cell register_count w x f) ≡ saved_word (is_point_at register_count v y) order' (cell register_count v y f))
        (ap (λ (c : ImageCell). c.left) (same-cell x y h hx)) (ap (λ (c : ImageCell). c.right) (same-cell x y h hx))

    number : (f : ℕ) → 0 < f → f < 3 → number_in order (link_of register_count w x f) ≡ number_in order' (link_of register_count v y f)
    number f positive below = go (is_point_at register_count w x) refl
      where
        go : (t : Bool) → is_point_at register_count w x ≡ t → number_in order (link_of register_count w x f) ≡ number_in order' (link_of register_count v y f)
        go true is =
            rw (link-point register_count w x f is, link-point register_count v y f (sym kind ∙ is)) (nil-number well ∙ sym (nil-number well'))
        go false is =
            rw (link-pair register_count w x f is, link-pair register_count v y f (sym kind ∙ is)) (rw (is, sym kind ∙ is) at (word f positive below))

  pub same_numbers : Related (λ k. k < register_count) BothFields SameNumber w v
  same_numbers =
      record {
        nil_alone = one_to_one.nil;
        nil = (λ some. absurd (omega arith), λ some. absurd (omega arith), nil-number well ∙ sym (nil-number well'));
        registers = registers;
        content = λ x y h hx hy.
            record {
              kind = kind x y h hx hy;
              value = ap (λ (c : ImageCell). c.value) (same-cell x y h hx);
              coordinates = λ point f both. rw (point, sym (kind x y h hx hy) ∙ point) at (word x y h hx hy f both.0 both.1);
            };
        links = λ x y h hx hy f positive below. (
          reach_link w x (h.0 hx) f positive below,
          reach_link v y (h.1 hy) f positive below,
          number x y h hx hy f positive below,
        );
      }

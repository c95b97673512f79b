-- The walk that numbers the cells: the link in hand, the right links on the stack and the registers to come are the pending links of the
-- depth-first walk (`Walk`), and the cells numbered so far are the start of the order.
use Prim.Native.Nat.{ℕ, zero, suc, ◌+◌, ◌-◌, ◌*◌, ◌<◌, ◌≤◌}
use native.Mathlib.Omega.{arith}
use native.Mathlib.Numerals.{add-one}
use native.Mathlib.Decide.{ℕ_discrete}
use mathlib.Core.Path.{◌≡◌, refl, sym, ap, ap₂, ◌∙◌}
use mathlib.Core.Logic.{◌⊎◌, inl, inr, ⊎_elim}
use mathlib.Core.List.{List, [], ◌∷◌, ◌++◌, append-nil, append_assoc, Memᴰ}
use mathlib.Core.Bool.{Bool, true, false, not, ◌&&◌}
use lib.ListN.{length, get_or, drop, set, length-set, length-append, drop_of_length-le}
use lib.Seq.{drop-cons, get_or-set_same, get_or-set_other}
use lib.Dec.{eqb}
use borrow.Author.Tests.{eqb-true, eqb-false}
use Rattle.graph.specs.Graph.{Graph}
use Rattle.graph.specs.Marking.{outside}
use Rattle.graph.specs.Dfs.{mark, marks}
use Rattle.graph.proofs.Marks.{outside-nil, outside-cell, marks-append, marks_cases, marks-keeps, marks-member, zero_or_above}
use Rattle.graph.proofs.Walk.{Walk, order-walk}
use Rattle.graph.proofs.Theorems.{preorder-length}
use Rattle.pool.specs.Layout.{register, link_of, graph_of, roots_of}
use Rattle.pool.proofs.Every.{length-tabulate, get_or-tabulate}
use Rattle.questions.proofs.WellFormed.{Link, WellFormed}
use Rattle.questions.proofs.PoolGraph.{Used, link_bound, used-links, pool-within}
use Rattle.reversal.specs.Reached.{reached_cells, reached_count}
use Rattle.image.specs.Image.{place_from, number_in}
use Rattle.numbering.specs.Steps.{is_new, Numbered}
use Rattle.numbering.proofs.Numbering.{number-member, number_placed, number-last, number_other}

-- A walk whose next link is marked, and one whose next link is not.
walk-skip : {g : Graph} {m : ℕ → ℕ} {p : ℕ} {ps t : List ℕ} → Walk g m (p ∷ ps) t → 0 < m p → Walk g m ps t
walk-skip (Walk.skip h w) marked = w
walk-skip (Walk.take e w) marked = absurd (omega arith)

record Taken (g : Graph) (m : ℕ → ℕ) (p : ℕ) (ps t : List ℕ) : Type 0 where
  others : List ℕ
  list : t ≡ p ∷ others
  walk : Walk g (mark m p) (g.left p ∷ g.right p ∷ ps) others

walk-take : {g : Graph} {m : ℕ → ℕ} {p : ℕ} {ps t : List ℕ} → Walk g m (p ∷ ps) t → m p ≡ 0 → Taken g m p ps t
walk-take (Walk.skip h w) unmarked = absurd (omega arith)
walk-take (Walk.take {t = t} e w) unmarked = record { others = t; list = refl; walk = w }

walk_none : {g : Graph} {m : ℕ → ℕ} {t : List ℕ} → Walk g m [] t → t ≡ []
walk_none Walk.none = refl

-- The links on the stack, the topmost first.
abbrev pub stack_of : ℕ → List ℕ → ℕ → List ℕ
stack_of n s zero = []
stack_of n s (suc d) = get_or s (n + d) 0 ∷ stack_of n s d

stack_top : (n : ℕ) (s : List ℕ) (depth : ℕ) → 0 < depth → stack_of n s depth ≡ get_or s (n + (depth - 1)) 0 ∷ stack_of n s (depth - 1)
stack_top n s zero some = absurd (omega arith)
stack_top n s (suc d) some = let this : suc d - 1 ≡ d = omega arith in rw this

stack-empty : (n : ℕ) (s : List ℕ) (depth : ℕ) → depth ≤ 0 → stack_of n s depth ≡ []
stack-empty n s zero none = refl
stack-empty n s (suc d) none = absurd (omega arith)

-- A write below or above the stack leaves it.
stack_set : (n : ℕ) (s : List ℕ) (p v depth : ℕ) → ((d : ℕ) → d < depth → n + d ≡ p → ⊥) → stack_of n (set s p v) depth ≡ stack_of n s depth
stack_set n s p v zero apart = refl
stack_set n s p v (suc d) apart =
    ap₂ (λ (x : ℕ) (l : List ℕ). x ∷ l) (get_or-set_other s p (n + d) v 0 (apart d (omega arith)))
    (stack_set n s p v d λ e below. apart e (omega arith))

-- What the loop keeps.
pub record Walking (R n : ℕ) (w s : List ℕ) (hand depth count root : ℕ) : Type 0 where
  pub done : List ℕ
  pub rest : List ℕ
  pub whole : reached_cells R n w ≡ done ++ rest
  pub counted : length done ≡ count
  pub numbered : (x : ℕ) → 0 < x → x ≤ n → get_or s (x - 1) 0 ≡ number_in done x
  pub deep : depth ≤ count
  pub rooted : root ≤ R
  pub hand_link : Link R n w hand
  pub stack-links : (d : ℕ) → d < depth → Link R n w (get_or s (n + d) 0)
  pub walk : Walk (graph_of R w) (marks (outside n) done) (hand ∷ (stack_of n s depth ++ drop root (roots_of R w))) rest

-- A new cell, and a link that is none.
pub new_cell : (s : List ℕ) (x : ℕ) (t : Bool) → t ≡ is_new s x → t ≡ true → (0 < x) × (get_or s (x - 1) 0 ≡ 0)
new_cell s x t is e = go (eqb x 0) (eqb (get_or s (x - 1) 0) 0) refl refl (sym is ∙ e)
  where
    go : (a b : Bool) → eqb x 0 ≡ a → eqb (get_or s (x - 1) 0) 0 ≡ b → (not a && b) ≡ true → (0 < x) × (get_or s (x - 1) 0 ≡ 0)
    go true b ea eb h = let z : ◌≡◌ {A = ℕ} 0 1 = cc in absurd (omega arith)
    go false true ea eb h = (omega (arith, eqb-false x 0 ea), eqb-true _ _ eb)
    go false false ea eb h = let z : ◌≡◌ {A = ℕ} 0 1 = cc in absurd (omega arith)

pub no_cell_lem : (s : List ℕ) (x : ℕ) (t : Bool) → t ≡ is_new s x → t ≡ false → 0 < x → 0 < get_or s (x - 1) 0
no_cell_lem s x t is e some = go (eqb x 0) (eqb (get_or s (x - 1) 0) 0) refl refl (sym is ∙ e)
  where
    go : (a b : Bool) → eqb x 0 ≡ a → eqb (get_or s (x - 1) 0) 0 ≡ b → (not a && b) ≡ false → 0 < get_or s (x - 1) 0
    go true b ea eb h = absurd (omega (arith, eqb-true x 0 ea))
    go false true ea eb h = let z : ◌≡◌ {A = ℕ} 0 1 = cc in absurd (omega arith)
    go false false ea eb h = omega (arith, eqb-false (get_or s (x - 1) 0) 0 eb)

module _ (R n : ℕ) (w : List ℕ) (well : WellFormed R n w) where
  pub walking_first : (s : List ℕ) → ((k : ℕ) → get_or s k 0 ≡ 0) → Walking R n w s 0 0 0 0
  unfolding marks place_from
  walking_first s clear =
      record {
        done = [];
        rest = reached_cells R n w;
        whole = refl;
        counted = refl;
        numbered = λ x low high. clear (x - 1);
        deep = omega arith;
        rooted = omega arith;
        hand_link = Link.nil refl;
        stack-links = λ d below. absurd (omega arith);
        walk = Walk.skip (outside-nil n) (order-walk n (graph_of R w) (roots_of R w) (pool-within well));
      }

  module _ (s : List ℕ) (hand depth count root : ℕ) (k : Walking R n w s hand depth count root) where
    pub walking_few : count ≤ n
    walking_few =
        omega (
          arith,
          preorder-length n (graph_of R w) (roots_of R w) (pool-within well),
          ap length k.whole,
          length-append k.done k.rest,
          k.counted,
        )

    pub walking_hand : hand ≤ n
    walking_hand = link_bound k.hand_link

    -- The cell in hand has no number yet.
    module _ (some : 0 < hand) (new : get_or s (hand - 1) 0 ≡ 0) where
      out : Memᴰ hand k.done → ⊥
      out m = omega (arith, k.numbered hand some walking_hand, number-member k.done hand m)

      unmarked : marks (outside n) k.done hand ≡ 0
      unmarked = go (zero_or_above (marks (outside n) k.done hand))
        where
          go : (marks (outside n) k.done hand ≡ 0) ⊎ (0 < marks (outside n) k.done hand) → marks (outside n) k.done hand ≡ 0
          go (inl e) = e
          go (inr h) = ⊎_elim (λ m. absurd (out m)) (λ o. absurd (omega (arith, outside-cell n hand some walking_hand))) (marks_cases (outside n) k.done hand h)

      taken : Taken (graph_of R w) (marks (outside n) k.done) hand (stack_of n s depth ++ drop root (roots_of R w)) k.rest
      taken = walk-take k.walk unmarked

      pub walking_room : count < n
      walking_room =
          omega (
            arith,
            preorder-length n (graph_of R w) (roots_of R w) (pool-within well),
            ap length k.whole,
            length-append k.done k.rest,
            k.counted,
            ap length taken.list,
          )

      links : Link R n w (link_of R w hand 1) × Link R n w (link_of R w hand 2)
      links = used-links well (go k.hand_link)
        where
          go : Link R n w hand → Used R n w hand
          go (Link.nil e) = absurd (omega arith)
          go (Link.used low high e) = record { positive = low; bounded = high; state = e }

      -- The scratch with the cell's number, and its right link on the stack.
      abbrev pushed : List ℕ
      pushed = set (set s (hand - 1) (count + 1)) (n + depth) (link_of R w hand 2)

      pushed_number : (x : ℕ) → 0 < x → x ≤ n → get_or pushed (x - 1) 0 ≡ get_or (set s (hand - 1) (count + 1)) (x - 1) 0
      pushed_number x low high = get_or-set_other (set s (hand - 1) (count + 1)) (n + depth) (x - 1) (link_of R w hand 2) 0 (λ e. omega arith)

      pub walking_take : 2 * n ≤ length s → Walking R n w pushed (link_of R w hand 1) (depth + 1) (count + 1) root
      unfolding marks
      walking_take room =
          record {
            done = k.done ++ (hand ∷ []);
            rest = taken.others;
            whole = k.whole ∙ (ap (λ (l : List ℕ). k.done ++ l) taken.list ∙ sym (append_assoc k.done (hand ∷ []) taken.others));
            counted = omega (arith, length-append k.done (hand ∷ []), k.counted);
            numbered = λ x low high. pushed_number x low high ∙ number x low high (ℕ_discrete x hand);
            deep = omega (arith, k.deep);
            rooted = k.rooted;
            hand_link = links.0;
            stack-links = λ d below. link d below (ℕ_discrete d depth);
            walk = rw (marked_more, stack-more) taken.walk;
          }
        where
          number : (x : ℕ) → 0 < x → x ≤ n → Dec (x ≡ hand)
              → get_or (set s (hand - 1) (count + 1)) (x - 1) 0 ≡ number_in (k.done ++ (hand ∷ [])) x
          number x low high (yes e) =
              rw e (get_or-set_same s (hand - 1) (count + 1) 0 (omega (arith, walking_hand)) ∙ (omega (arith, number-last k.done hand out, k.counted)))
          number x low high (no apart) =
              get_or-set_other s (hand - 1) (x - 1) (count + 1) 0 (λ e. apart (omega arith)) ∙ (k.numbered x low high ∙ sym (number_other k.done hand x apart))

          below-stack : (d : ℕ) → n + d ≡ hand - 1 → ⊥
          below-stack d e = omega (arith, walking_hand)

          link : (d : ℕ) → d < depth + 1 → Dec (d ≡ depth) → Link R n w (get_or pushed (n + d) 0)
          link d below (yes e) =
              rw e
              (rw (get_or-set_same (set s (hand - 1) (count + 1)) (n + depth) (link_of R w hand 2) 0
              (omega (arith, length-set s (hand - 1) (count + 1), walking_room, k.deep))) links.1)
          link d below (no apart) =
              rw (
                get_or-set_other (set s (hand - 1) (count + 1)) (n + depth) (n + d) (link_of R w hand 2) 0 (λ e. apart (omega arith)),
                get_or-set_other s (hand - 1) (n + d) (count + 1) 0 (below-stack d),
              ) (k.stack-links d (omega arith))

          marked_more : marks (outside n) (k.done ++ (hand ∷ [])) ≡ mark (marks (outside n) k.done) hand
          marked_more = marks-append (outside n) k.done (hand ∷ [])

          stack-more : stack_of n pushed (depth + 1) ≡ link_of R w hand 2 ∷ stack_of n s depth
          stack-more =
              let this : depth + 1 - 1 ≡ depth = omega arith in
              stack_top n pushed (depth + 1) (omega arith)
              ∙ (rw this
              (ap₂ (λ (x : ℕ) (l : List ℕ). x ∷ l)
              (get_or-set_same (set s (hand - 1) (count + 1)) (n + depth) (link_of R w hand 2) 0
              (omega (arith, length-set s (hand - 1) (count + 1), walking_room, k.deep)))
              (stack_set n (set s (hand - 1) (count + 1)) (n + depth) (link_of R w hand 2) depth (λ d below e. omega arith)
              ∙ stack_set n s (hand - 1) (count + 1) depth (λ d below. below-stack d))))

    module _ (t : Bool) (is : t ≡ is_new s hand) (old : t ≡ false) where
      marked : 0 < marks (outside n) k.done hand
      marked = go (zero_or_above hand)
        where
          go : (hand ≡ 0) ⊎ (0 < hand) → 0 < marks (outside n) k.done hand
          go (inl e) = rw e (marks-keeps (outside n) k.done 0 (outside-nil n))
          go (inr some) =
              marks-member (outside n) {t = k.done} hand
              (number_placed k.done hand (omega (arith, k.numbered hand some walking_hand, no_cell_lem s hand t is old some))).member

      skipped : Walk (graph_of R w) (marks (outside n) k.done) (stack_of n s depth ++ drop root (roots_of R w)) k.rest
      skipped = walk-skip k.walk marked

      pub walking_pop : 0 < depth → Walking R n w s (get_or s (n + (depth - 1)) 0) (depth - 1) count root
      walking_pop some =
          record {
            done = k.done;
            rest = k.rest;
            whole = k.whole;
            counted = k.counted;
            numbered = k.numbered;
            deep = omega (arith, k.deep);
            rooted = k.rooted;
            hand_link = k.stack-links (depth - 1) (omega arith);
            stack-links = λ d below. k.stack-links d (omega arith);
            walk = rw (stack_top n s depth some) at skipped;
          }

      pub walking_root : depth ≤ 0 → root < R → Walking R n w s (register w root) depth count (root + 1)
      walking_root none more =
          record {
            done = k.done;
            rest = k.rest;
            whole = k.whole;
            counted = k.counted;
            numbered = k.numbered;
            deep = k.deep;
            rooted = omega arith;
            hand_link = well.registers root more;
            stack-links = k.stack-links;
            walk = rw (stack-empty n s depth none) (rw (stack-empty n s depth none, next-root) at skipped);
          }
        where
          next-root : drop root (roots_of R w) ≡ register w root ∷ drop (root + 1) (roots_of R w)
          next-root =
              drop-cons (roots_of R w) root 0 (omega (arith, length-tabulate R (λ j. register w j)))
              ∙ rw (get_or-tabulate R (λ j. register w j) root 0 more, add-one root)

      pub walking_end : depth ≤ 0 → R ≤ root → (count ≡ reached_count R n w) × Numbered R n w s
      walking_end none last =
          let past = drop_of_length-le (roots_of R w) {i = root} (omega (arith, length-tabulate R (λ j. register w j))) in
          let ended = walk_none (rw (stack-empty n s depth none, past) at skipped) in
          let all : reached_cells R n w ≡ k.done = k.whole ∙ (ap (λ (l : List ℕ). k.done ++ l) ended ∙ append-nil k.done) in
          (sym (ap length all ∙ k.counted), λ x low high. k.numbered x low high ∙ ap (λ (l : List ℕ). number_in l x) (sym all))

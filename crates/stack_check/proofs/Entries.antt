-- The entries in the lent words: pushed and popped, walked from in place, and the gaps closed.
use Prim.Native.Nat.{ℕ, zero, suc, ◌+◌, ◌-◌, ◌<◌, ◌≤◌}
use native.Mathlib.Omega.{arith}
use native.Mathlib.Numerals.{add-one}
use mathlib.Core.Path.{◌≡◌, refl, sym, ap, ap₂, ◌∙◌}
use mathlib.Core.List.Memᴰ
use mathlib.Core.List.{List, [], ◌∷◌, ◌++◌}
use lib.ListN.{length, get_or, set, length-set}
use lib.Seq.{get_or-set_same, get_or-set_other}
use borrow.Author.Tests.{ne_eqb}
use Rattle.graph.specs.Graph.{Graph}
use Rattle.graph.proofs.Lists.{Each}
use Rattle.graph.proofs.Reached.{reach_above}
use Rattle.stack_algorithm.specs.Steps.{Going}
use Rattle.stack_algorithm.specs.Check.{walk, check}
use Rattle.stack_algorithm.proofs.Checking.{swap, walk-going, walk-next, walk-left}
use Rattle.stack_check.specs.Steps.{entries, entry_of, without_nil}

pub entries-length : (words : List ℕ) (top : ℕ) → length (entries words top) ≡ top
unfolding entries
entries-length words zero = refl
entries-length words (suc top) = ap suc (entries-length words top)

pub entries_above : (words : List ℕ) (at x top : ℕ) → top ≤ at → entries (set words at x) top ≡ entries words top
unfolding entries
entries_above words at x zero h = refl
entries_above words at x (suc top) h = ap₂ (λ (y : ℕ) (l : List ℕ). y ∷ l) (get_or-set_other words at top x 0 (omega arith)) (entries_above words at x top (omega arith))

pub entries-push : (words : List ℕ) (top x : ℕ) → top < length words → entries (set words top x) (top + 1) ≡ x ∷ entries words top
unfolding entries
entries-push words top x h =
    rw (add-one top) (ap₂ (λ (y : ℕ) (l : List ℕ). y ∷ l) (get_or-set_same words top x 0 h) (entries_above words top x top (omega arith)))

pub entries_pop : (words : List ℕ) (top : ℕ) → 0 < top → entries words top ≡ get_or words (top - 1) 0 ∷ entries words (top - 1)
unfolding entries
entries_pop words zero h = absurd (omega arith)
entries_pop words (suc top) h = let less : suc top - 1 ≡ top = omega arith in rw less

-- What takes the place of an entry in the words: 0 for none.
abbrev pub place_of : List ℕ → ℕ
place_of left = get_or left 0 0

pub place-entry : (x : ℕ) → place_of (entry_of x) ≡ x
place-entry zero = refl
place-entry (suc x) = rw (ne_eqb (suc x) 0 (λ e. omega arith)) refl

-- The walks from the entries below i, from the top one to the bottom.
unfoldable pub walk_down : ℕ → Graph → ℕ → List ℕ → List ℕ → List ℕ × List ℕ
walk_down steps g zero seen stack = (seen, stack)
walk_down steps g (suc i) seen stack =
    let first = walk steps g seen (get_or stack i 0) in walk_down steps g i first.0 (set stack i (place_of first.1))

-- The walks in place are the check, but for the gaps.
pub record Walked (steps : ℕ) (g : Graph) (i : ℕ) (seen stack : List ℕ) (end : List ℕ × List ℕ) : Type 0 where
  pub marked : end.0 ≡ (check steps g seen (entries stack i)).0
  pub left : without_nil (entries end.1 i) ≡ (check steps g seen (entries stack i)).1
  pub above : (k : ℕ) → i ≤ k → get_or end.1 k 0 ≡ get_or stack k 0

module _ {g : Graph} {roots : List ℕ} (steps : ℕ) where
  -- what a walk leaves is nothing or one cell
  entry_place : (seen others : List ℕ) (p : ℕ) → Going g roots seen (p ∷ others) → entry_of (place_of (walk steps g seen p).1) ≡ (walk steps g seen p).1
  entry_place seen others p s = go (walk steps g seen p).1 (walk-left g steps seen p).fewer λ x mem. reach_above (end.cells x (end.held x (Memᴰ.append_left others mem)))
    where
      end : Going g roots (walk steps g seen p).0 ((walk steps g seen p).1 ++ others)
      end = walk-going steps seen others p s

      go : (left : List ℕ) → length left ≤ 1 → Each (λ x. 0 < x) left → entry_of (place_of left) ≡ left
      go [] one some = refl
      go (x ∷ []) one some = rw (ne_eqb x 0 (λ e. omega (arith, some x (Memᴰ.head refl)))) refl
      go (x ∷ y ∷ more) one some = absurd (omega arith)

  pub down_walked : (i : ℕ) (seen others stack : List ℕ) → i ≤ length stack → Going g roots seen (others ++ entries stack i)
      → Walked steps g i seen stack (walk_down steps g i seen stack)
  unfolding walk_down check entries without_nil
  down_walked zero seen others stack fits s = record { marked = refl; left = refl; above = λ k h. refl }
  down_walked (suc i) seen others stack fits s = done (down_walked i first.0 (others ++ first.1) stack' (rw (length-set stack i (place_of first.1)) (omega arith)) next)
    where
      p : ℕ
      p = get_or stack i 0

      first : List ℕ × List ℕ
      first = walk steps g seen p

      stack' : List ℕ
      stack' = set stack i (place_of first.1)

      below : entries stack' i ≡ entries stack i
      below = entries_above stack i (place_of first.1) i (omega arith)

      next : Going g roots first.0 ((others ++ first.1) ++ entries stack' i)
      next = rw below (walk-next steps seen others (entries stack i) p s)

      done : Walked steps g i first.0 stack' (walk_down steps g i first.0 stack') → Walked steps g (suc i) seen stack (walk_down steps g i first.0 stack')
      done rest =
          let here : get_or (walk_down steps g i first.0 stack').1 i 0 ≡ place_of first.1 =
          rest.above i (omega arith) ∙ get_or-set_same stack i (place_of first.1) 0 (omega arith) in
          record {
            marked = rest.marked ∙ ap (λ (l : List ℕ). (check steps g first.0 l).0) below;
            left =
                ap₂ (λ (x : ℕ) (l : List ℕ). entry_of x ++ l) here (rest.left ∙ ap (λ (l : List ℕ). (check steps g first.0 l).1) below)
                ∙ ap (λ (l : List ℕ). l ++ (check steps g first.0 (entries stack i)).1) (entry_place seen (others ++ entries stack i) p (swap others (p ∷ []) (entries stack i) s));
            above = λ k h. rest.above k (omega arith) ∙ get_or-set_other stack i k (place_of first.1) 0 (omega arith);
          }

-- Between two turns of the loop that closes the gaps: the entries below i of the words as they were stand below `kept` without the gaps, and from i on
-- the words are as they were.
pub record Closing (stack₀ stack : List ℕ) (kept i : ℕ) : Type 0 where
  pub lent : length stack ≡ length stack₀
  pub fewer : kept ≤ i
  pub most : i ≤ length stack₀
  pub same : entries stack kept ≡ without_nil (entries stack₀ i)
  pub above : (k : ℕ) → i ≤ k → get_or stack k 0 ≡ get_or stack₀ k 0

pub closing_first : (stack₀ : List ℕ) → Closing stack₀ stack₀ 0 0
unfolding entries without_nil
closing_first stack₀ = record { lent = refl; fewer = omega arith; most = omega arith; same = refl; above = λ k h. refl }

module _ {stack₀ stack : List ℕ} {kept i : ℕ} (s : Closing stack₀ stack kept i) (below : i < length stack₀) where
  turn_entries : without_nil (entries stack₀ (i + 1)) ≡ entry_of (get_or stack i 0) ++ without_nil (entries stack₀ i)
  unfolding entries without_nil
  turn_entries = rw (add-one i, s.above i (omega arith))

  pub closing_gap : get_or stack i 0 ≡ 0 → Closing stack₀ stack kept (i + 1)
  closing_gap e =
      record {
        lent = s.lent;
        fewer = omega (arith, s.fewer);
        most = omega (arith, s.lent);
        same = s.same ∙ sym (turn_entries ∙ ap (λ (x : ℕ). entry_of x ++ without_nil (entries stack₀ i)) e);
        above = λ k h. s.above k (omega arith);
      }

  pub closing_entry : (get_or stack i 0 ≡ 0 → ⊥) → Closing stack₀ (set stack kept (get_or stack i 0)) (kept + 1) (i + 1)
  closing_entry some =
      let x = get_or stack i 0 in
      record {
        lent = length-set stack kept x ∙ s.lent;
        fewer = omega (arith, s.fewer);
        most = omega (arith, s.lent);
        same =
            entries-push stack kept x (omega (arith, s.lent, s.fewer))
            ∙ (ap (λ (l : List ℕ). x ∷ l) s.same ∙ sym (turn_entries ∙ rw (ne_eqb x 0 some) refl));
        above = λ k h. get_or-set_other stack kept k x 0 (omega (arith, s.fewer)) ∙ s.above k (omega arith);
      }

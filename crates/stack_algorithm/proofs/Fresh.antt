-- Links that are unmarked: what the tests say, and how many cells are marked.
use Prim.Native.Nat.{ℕ, suc, ◌+◌, ◌<◌, ◌≤◌}
use native.Mathlib.Omega.{arith}
use mathlib.Core.Path.{◌≡◌, refl, sym, ◌∙◌}
use mathlib.Core.Logic.{◌⊎◌, inl, inr}
use mathlib.Core.List.Memᴰ
use mathlib.Core.List.{List, [], ◌∷◌, Memᴰ}
use mathlib.Core.Bool.{Bool, true, false, true≢false, false≢true, cond}
use lib.ListN.{length}
use lib.Dec.{eqb}
use borrow.Author.Tests.{ne_eqb, eqb-true, eqb-false}
use Rattle.graph.specs.Preorder.{elem}
use Rattle.graph.specs.Marking.{outside, marked_count}
use Rattle.graph.specs.Dfs.{mark, marks}
use Rattle.graph.specs.Theorems.{Distinct}
use Rattle.graph.proofs.Lists.{Each, each_nil, each_cons, has_member, has_none, member_has}
use Rattle.graph.proofs.Marks.{mark_other, outside-cell}
use Rattle.graph.proofs.Count.{marked-le, marked-mark}
use Rattle.stack_algorithm.specs.Stack.{is_unmarked, unmarked_links, taken}

-- an unmarked link is a cell that is not among the marked ones, and every other one is nil or among them
pub fresh-true : (seen : List ℕ) (x : ℕ) → is_unmarked seen x ≡ true → (0 < x) × (Memᴰ x seen → ⊥)
fresh-true seen ℕ.zero e = absurd (false≢true e)
fresh-true seen (ℕ.suc x) e = (omega arith, λ mem. false≢true (simp (ne_eqb (suc x) 0 (omega arith), has_member (suc x) mem) at e))

pub fresh-false : (seen : List ℕ) (x : ℕ) → is_unmarked seen x ≡ false → 0 < x → Memᴰ x seen
fresh-false seen x e some = go (elem x seen) refl
  where
    go : (t : Bool) → elem x seen ≡ t → Memᴰ x seen
    go true h = member_has x seen h
    go false h = absurd (true≢false (simp (ne_eqb x 0 (omega arith), h) at e))

pub member-fresh : (seen : List ℕ) (x : ℕ) → Memᴰ x seen → is_unmarked seen x ≡ false
member-fresh seen ℕ.zero mem = refl
member-fresh seen (ℕ.suc x) mem = simp (ne_eqb (suc x) 0 (omega arith), has_member (suc x) mem)

pub other_fresh : (seen : List ℕ) (x : ℕ) → 0 < x → (Memᴰ x seen → ⊥) → is_unmarked seen x ≡ true
other_fresh seen x some out = simp (ne_eqb x 0 (omega arith), has_none x seen out)

-- a list with a member has some length
pub member-some : {x : ℕ} {t : List ℕ} → Memᴰ x t → 0 < length t
member-some (Memᴰ.head e) = omega arith
member-some (Memᴰ.tail mem) = omega arith

-- at most one cell is taken in hand from a root
pub taken-one : (seen : List ℕ) (p : ℕ) → length (taken seen p) ≤ 1
taken-one seen p = go (is_unmarked seen p)
  where
    go : (t : Bool) → length (cond t (p ∷ []) []) ≤ 1
    go true = omega arith
    go false = omega arith

-- marking a list of cells, none of them twice, of which none was marked: as many more are marked
pub marked_all : (n : ℕ) (m : ℕ → ℕ) {t : List ℕ} → Distinct t → Each (λ x. (0 < x) × (x ≤ n) × (m x ≡ 0)) t → marked_count n (marks m t) ≡ length t + marked_count n m
unfolding marks
marked_all n m Distinct.none cells = omega arith
marked_all n m (Distinct.more {x = x} {xs = xs} out rest) cells =
    let (low, high, e) = cells x (Memᴰ.head refl) in
    omega (
      arith,
      marked-mark n m x low high e,
      marked_all n (mark m x) rest λ y mem.
          let (l, h, z) = cells y (Memᴰ.tail mem) in
          (l, h, mark_other m x y (λ q. out (rw q at mem)) ∙ z),
    )

-- so a list of some of the n cells, none of them twice, is no longer than n
pub distinct-length : (n : ℕ) {t : List ℕ} → Distinct t → Each (λ x. (0 < x) × (x ≤ n)) t → length t ≤ n
distinct-length n {t} distinct cells =
    omega (
      arith,
      marked_all n (outside n) distinct λ x mem. let (low, high) = cells x mem in (low, high, outside-cell n x low high),
      marked-le n (marks (outside n) t),
    )

-- What holds of those of two links l and r that pass a test: there are at most two, none is there twice, each is one of the links and passes, and
-- each link that passes is among them.
pub record Passing (test : ℕ → Bool) (l r : ℕ) (new : List ℕ) : Type 0 where
  pub short : length new ≤ 2
  pub distinct : Distinct new
  pub passes : Each (λ x. test x ≡ true) new
  pub links : Each (λ x. (x ≡ l) ⊎ (x ≡ r)) new
  pub left : test l ≡ true → Memᴰ l new
  pub right : test r ≡ true → Memᴰ r new

pub passing : (test : ℕ → Bool) (l r : ℕ) → Passing test l r (unmarked_links (test l) (test r) l r)
passing test l r = go (test l) (test r) refl refl
  where
    Pass : ℕ → Type 0
    Pass x = test x ≡ true

    Link : ℕ → Type 0
    Link x = (x ≡ l) ⊎ (x ≡ r)

    single : (x : ℕ) → Pass x → Link x → (Pass l → Memᴰ l (x ∷ [])) → (Pass r → Memᴰ r (x ∷ [])) → Passing test l r (x ∷ [])
    single x pass link left right =
        record {
          short = omega arith;
          distinct = Distinct.more Memᴰ.not-nil Distinct.none;
          passes = each_cons Pass pass (each_nil Pass);
          links = each_cons Link link (each_nil Link);
          left = left;
          right = right;
        }

    equal : (t : Bool) → eqb l r ≡ t → Pass l → Pass r → Passing test l r (cond t (l ∷ []) (l ∷ r ∷ []))
    equal true e pl pr = single l pl (inl refl) (λ _. Memᴰ.head refl) (λ _. Memᴰ.head (sym (eqb-true l r e)))
    equal false e pl pr =
        record {
          short = omega arith;
          distinct =
              Distinct.more (λ mem. eqb-false l r e (Memᴰ.eq_of_singleton mem)) (Distinct.more Memᴰ.not-nil Distinct.none);
          passes = each_cons Pass pl (each_cons Pass pr (each_nil Pass));
          links = each_cons Link (inl refl) (each_cons Link (inr refl) (each_nil Link));
          left = λ _. Memᴰ.head refl;
          right = λ _. Memᴰ.tail (Memᴰ.head refl);
        }

    go : (a b : Bool) → test l ≡ a → test r ≡ b → Passing test l r (unmarked_links a b l r)
    go true true ea eb = equal (eqb l r) refl ea eb
    go true false ea eb = single l ea (inl refl) (λ _. Memᴰ.head refl) (λ e. absurd (true≢false (sym e ∙ eb)))
    go false true ea eb = single r eb (inr refl) (λ e. absurd (true≢false (sym e ∙ ea))) (λ _. Memᴰ.head refl)
    go false false ea eb =
        record {
          short = omega arith;
          distinct = Distinct.none;
          passes = each_nil Pass;
          links = each_nil Link;
          left = λ e. absurd (true≢false (sym e ∙ ea));
          right = λ e. absurd (true≢false (sym e ∙ eb));
        }

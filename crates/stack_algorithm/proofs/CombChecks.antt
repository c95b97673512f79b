-- The left comb with few words: its entries are leaves, and each check drops all of them.
use Prim.Native.Nat.{ℕ, zero, suc, ◌+◌, ◌*◌, ◌-◌, ◌/◌, ◌%◌, ◌<◌, ◌≤◌}
use native.Mathlib.Omega.{arith}
use native.Mathlib.Nat.{add-mul-div_right, div-eq_of_lt}
use mathlib.Core.Path.{◌≡◌, refl, ap, ◌∙◌}
use mathlib.Core.Logic.{⊎_elim}
use mathlib.Core.List.Memᴰ
use mathlib.Core.List.{List, [], ◌∷◌, ◌++◌, append-nil, Memᴰ}
use mathlib.Core.Bool.{Bool, true, false, cond}
use lib.ListN.{length, replicate}
use lib.Dec.{leb, ltb}
use borrow.Author.Tests.{ne_eqb, lt-ltb, ltb-true, ltb-false, lt-leb, leb-true}
use Rattle.graph.specs.Graph.{Graph, Reach, Within}
use Rattle.graph.specs.Preorder.{elem}
use Rattle.graph.specs.Compare.{Agree}
use Rattle.graph.proofs.Lists.{Each, each_nil, each_cons, each_append}
use Rattle.graph.proofs.Reached.{reach_least}
use Rattle.stack_algorithm.specs.Stack.{is_unmarked, unmarked_links, onward}
use Rattle.stack_algorithm.specs.Check.{walk, check, check_and_push, turn_by, limited, is_enough, limited_runs, limited_run}
use Rattle.stack_algorithm.specs.Comb.{or_nil, comb, CombChecks, CombWithoutWords}
use Rattle.stack_algorithm.specs.Steps.{Going}
use Rattle.stack_algorithm.proofs.Fresh.{fresh-true, member-fresh}
use Rattle.stack_algorithm.proofs.Going.{going_first, begin}
use Rattle.stack_algorithm.proofs.Checking.{limited-none, limited-ended}
use Rattle.stack_algorithm.proofs.Comb.{link_odd, link-even, link_bound, both-links, comb-reached_in}

-- how often j further pushes find `room` words full, of which some hold an entry already
fills_up : (room j : ℕ) → 0 < room → (room + suc j - 1) / room ≡ suc (j / room)
fills_up room j some =
    let all : room + suc j - 1 ≡ j + 1 * room = omega arith in
    rw all (add-mul-div_right j 1 some ∙ omega arith)

not_full : (room e : ℕ) → 0 < room → e ≤ room → (e + 0 - 1) / room ≡ 0
not_full room e some less = div-eq_of_lt (omega arith)

module _ (n : ℕ) (g : Graph) (same : (i : ℕ) → 0 < i → i ≤ n → Agree g (comb n) i) (room : ℕ) where
  -- A leaf: an even cell.
  Leaf : ℕ → Type 0
  Leaf x = (0 < x) × (x ≤ n) × (x % 2 ≡ 0)

  leaf_ends : (seen : List ℕ) (x : ℕ) → Leaf x → onward g seen x ≡ []
  unfolding Leaf
  leaf_ends seen x (low, high, even) = rw ((same x low high).left, (same x low high).right, link-even n x 2 even, link-even n x 1 even)

  -- the check of leaves drops them
  leaves_dropped : (steps : ℕ) → 0 < steps → (seen entries : List ℕ) → Each Leaf entries → check steps g seen entries ≡ (seen, [])
  unfolding check walk
  leaves_dropped zero some seen entries leaves = absurd (omega arith)
  leaves_dropped (suc steps) some seen [] leaves = refl
  leaves_dropped (suc steps) some seen (x ∷ entries) leaves =
      rw (leaf_ends seen x (leaves x (Memᴰ.head refl))) (leaves_dropped (suc steps) some seen entries λ y mem. leaves y (Memᴰ.tail mem))

  -- where only leaves are pending no check is made
  leaves_end : (steps turns : ℕ) (seen pending : List ℕ) → Each Leaf pending → (limited room steps turns g seen pending).1 ≡ []
  unfolding limited
  leaves_end steps zero seen pending leaves = refl
  leaves_end steps (suc turns) seen [] leaves = refl
  leaves_end steps (suc turns) seen (x ∷ entries) leaves =
      rw (leaf_ends seen x (leaves x (Memᴰ.head refl))) (leaves_end steps turns seen entries λ y mem. leaves y (Memᴰ.tail mem))

  -- the last cell of the chain, in hand: its left link is nil, and its right one is nil or leads to a leaf
  last_end : (k steps turns : ℕ) (seen entries : List ℕ) → 2 * k + 1 ≤ n → n < 2 * k + 3 → Each Leaf entries
      → (limited room steps turns g seen ((2 * k + 1) ∷ entries)).1 ≡ []
  unfolding limited Leaf
  last_end k steps zero seen entries low high leaves = refl
  last_end k steps (suc turns) seen entries low high leaves = rw left-nil (go (is_unmarked seen (g.right (2 * k + 1))) refl)
    where
      left-nil : g.left (2 * k + 1) ≡ 0
      left-nil =
          (same (2 * k + 1) (omega arith) low).left
          ∙ (link_odd n (2 * k + 1) 2 (omega arith) ∙ ap (λ (t : Bool). cond t (2 * k + 1 + 2) 0) (lt-leb (2 * k + 1 + 2) n (omega arith)))

      right : g.right (2 * k + 1) ≡ or_nil n (2 * k + 1 + 1)
      right = (same (2 * k + 1) (omega arith) low).right ∙ link_odd n (2 * k + 1) 1 (omega arith)

      leaf : 0 < g.right (2 * k + 1) → Leaf (g.right (2 * k + 1))
      leaf some = cases (leb (2 * k + 1 + 1) n) refl
        where
          cases : (t : Bool) → leb (2 * k + 1 + 1) n ≡ t → Leaf (g.right (2 * k + 1))
          cases true e =
              let is : g.right (2 * k + 1) ≡ 2 * k + 1 + 1 = right ∙ ap (λ (t : Bool). cond t (2 * k + 1 + 1) 0) e in
              (some, omega (arith, is, leb-true (2 * k + 1 + 1) n e), omega (arith, is))
          cases false e =
              let is : g.right (2 * k + 1) ≡ 0 = right ∙ ap (λ (t : Bool). cond t (2 * k + 1 + 1) 0) e in absurd (omega (arith, is))

      go : (t : Bool) → is_unmarked seen (g.right (2 * k + 1)) ≡ t
          → (turn_by room steps g (limited room steps turns g) seen entries (unmarked_links false t 0 (g.right (2 * k + 1)))).1 ≡ []
      go true e =
          leaves_end steps turns (seen ++ g.right (2 * k + 1) ∷ []) (g.right (2 * k + 1) ∷ entries)
          (each_cons Leaf (leaf (fresh-true seen (g.right (2 * k + 1)) e).0) leaves)
      go false e = leaves_end steps turns seen entries leaves

  -- down the chain, with j pushes left
  down : 0 < room → (steps : ℕ) → 0 < steps → (j k turns : ℕ) (seen entries : List ℕ) → k + j ≡ (n - 1) / 2 → 2 * k + 1 ≤ n → j ≤ turns
      → Each Leaf entries → length entries ≤ room → Each (λ x. x ≤ 2 * k + 1) seen
      → (limited room steps turns g seen ((2 * k + 1) ∷ entries)).1 ≡ replicate ((length entries + j - 1) / room) room
  unfolding limited Leaf
  down some steps walks zero k turns seen entries left low more leaves fits below =
      rw (not_full room (length entries) some fits) (last_end k steps turns seen entries low (omega arith) leaves)
  down some steps walks (suc j) k zero seen entries left low more leaves fits below = absurd (omega arith)
  down some steps walks (suc j) k (suc turns) seen entries left low more leaves fits below =
      rw (both-links n g same [] k seen (omega arith) below)
      (go (ltb (length entries) room) refl (down some steps walks j (suc k) turns now))
    where
      now : List ℕ
      now = seen ++ (2 * suc k + 1) ∷ (2 * k + 2) ∷ []

      new : Leaf (2 * k + 2)
      new = (omega arith, omega arith, omega arith)

      bound : Each (λ x. x ≤ 2 * suc k + 1) now
      bound =
          each_append (λ x. x ≤ 2 * suc k + 1) seen (λ x mem. omega (arith, below x mem))
          (each_cons (λ x. x ≤ 2 * suc k + 1) (omega arith) (each_cons (λ x. x ≤ 2 * suc k + 1) (omega arith) (each_nil (λ x. x ≤ 2 * suc k + 1))))

      go : (t : Bool) → ltb (length entries) room ≡ t
          → ((entries : List ℕ) → suc k + j ≡ (n - 1) / 2 → 2 * suc k + 1 ≤ n → j ≤ turns → Each Leaf entries → length entries ≤ room
          → Each (λ x. x ≤ 2 * suc k + 1) now → (limited room steps turns g now ((2 * suc k + 1) ∷ entries)).1 ≡ replicate ((length entries + j - 1) / room) room)
          → (cond t (limited room steps turns g now ((2 * suc k + 1) ∷ (2 * k + 2) ∷ entries)) (check_and_push steps g (limited room steps turns g) now entries (2 * suc k + 1) (2 * k + 2))).1
          ≡ replicate ((length entries + suc j - 1) / room) room
      go true e rest =
          rest ((2 * k + 2) ∷ entries) (omega arith) (omega arith) (omega arith) (each_cons Leaf new leaves) (omega (arith, ltb-true (length entries) room e)) bound
          ∙ ap (λ (m : ℕ). replicate (m / room) room) (omega arith)
      go false e rest =
          let full : length entries ≡ room = omega (arith, ltb-false (length entries) room e) in
          let count : (length entries + suc j - 1) / room ≡ suc (j / room) = ap (λ (m : ℕ). (m + suc j - 1) / room) full ∙ fills_up room j some in
          let again = rest ((2 * k + 2) ∷ []) (omega arith) (omega arith) (omega arith) (each_cons Leaf new (each_nil Leaf)) (omega arith) bound in
          let dropped : length entries - 0 ≡ room = omega arith in
          rw (leaves_dropped steps walks now entries leaves, count, dropped, lt-ltb 0 room some)
          (ap (λ (t : List ℕ). room ∷ t) (again ∙ ap (λ (m : ℕ). replicate (m / room) room) (omega arith)))

  -- what is marked already is not taken in hand
  all_seen : (ps seen : List ℕ) → Each (λ x. 0 < x → Memᴰ x seen) ps → limited_runs room n g seen ps ≡ (seen, [])
  unfolding limited_runs elem
  all_seen [] seen marked = refl
  all_seen (p ∷ ps) seen marked = rw (known p (marked p (Memᴰ.head refl)), append-nil seen, limited-none room n n g seen) (all_seen ps seen λ x mem. marked x (Memᴰ.tail mem))
    where
      known : (p : ℕ) → (0 < p → Memᴰ p seen) → is_unmarked seen p ≡ false
      known zero mem = refl
      known (suc p) mem = member-fresh seen (suc p) (mem (omega arith))

pub elem-replicate : (c x : ℕ) → 0 < x → elem 0 (replicate c x) ≡ false
unfolding elem
elem-replicate zero x some = refl
elem-replicate (suc c) x some = rw (ne_eqb 0 x (λ e. omega arith), elem-replicate c x some)

module _ (n : ℕ) (g : Graph) (same : (i : ℕ) → 0 < i → i ≤ n → Agree g (comb n) i) (roots : List ℕ) (some : 0 < n) (within : Within n g (1 ∷ roots)) where
  abbrev first : ℕ → List ℕ × List ℕ
  first room = limited room n n g (1 ∷ []) (1 ∷ [])

  start : Going g (1 ∷ roots) (1 ∷ []) (1 ∷ [])
  unfolding elem
  start = begin (going_first g (1 ∷ roots)) 1 (Reach.root (Memᴰ.head refl))

  pub comb_checks_in : (room : ℕ) → 0 < room → (limited_run room n g (1 ∷ roots)).1 ≡ replicate (((n - 1) / 2 - 1) / room) room
  unfolding limited_runs elem
  comb_checks_in room words =
      let count = ((n - 1) / 2 - 1) / room in
      let checks : (first room).1 ≡ replicate count room =
      down n g same room words n some ((n - 1) / 2) 0 n (1 ∷ []) [] (omega arith) (omega arith) (omega arith) (each_nil (Leaf n g same room)) (omega arith)
      (each_cons (λ x. x ≤ 1) (omega arith) (each_nil (λ x. x ≤ 1)))
      ∙ ap (λ (m : ℕ). replicate (m / room) room) (omega arith) in
      let enough : is_enough (first room) ≡ true = rw (checks, elem-replicate count room words) refl in
      let end = limited-ended within room n n (1 ∷ []) (1 ∷ []) start (omega arith) in
      let going = end.done enough in
      let all : (x : ℕ) → Reach g (1 ∷ []) x → Memᴰ x (first room).0 = λ x reach. reach_least (λ y. Memᴰ y (first room).0)
      (each_cons (λ x. 0 < x → Memᴰ x (first room).0) (λ h. end.keeps 1 (Memᴰ.head refl)) (each_nil (λ x. 0 < x → Memᴰ x (first room).0)))
      (λ y mem. ⊎_elim (λ k. absurd (Memᴰ.not-nil k)) (λ k. k) (going.closed y mem)) reach in
      rw (enough, all_seen n g same room roots (first room).0 (λ x mem low. all x (comb-reached_in n g same [] x low (within.root x (Memᴰ.tail mem)))), checks)
      (append-nil (replicate count room))

pub comb-without_words_in : (n : ℕ) (g : Graph) → ((i : ℕ) → 0 < i → i ≤ n → Agree g (comb n) i) → (roots : List ℕ) → 3 ≤ n
    → (limited_run 0 n g (1 ∷ roots)).1 ≡ 0 ∷ []
unfolding limited_runs limited check elem
comb-without_words_in zero g same roots many = absurd (omega arith)
comb-without_words_in (suc m) g same roots many =
    rw (both-links (suc m) g same [] 0 (1 ∷ []) (omega arith) (each_cons (λ x. x ≤ 1) (omega arith) (each_nil (λ x. x ≤ 1)))) refl

pub comb_checks : CombChecks
unfolding limited_runs limited elem
comb_checks zero room words = rw (div-eq_of_lt words) refl
comb_checks (suc m) room words =
    comb_checks_in (suc m) (comb (suc m)) (λ i low high. record { left = refl; right = refl }) [] (omega arith)
    (record {
      root = each_cons (λ x. x ≤ suc m) (omega arith) (each_nil (λ x. x ≤ suc m));
      left = λ x reach. link_bound (suc m) x 2;
      right = λ x reach. link_bound (suc m) x 1;
    }) room words

pub comb-without_words : CombWithoutWords
comb-without_words n many = comb-without_words_in n (comb n) (λ i low high. record { left = refl; right = refl }) [] many

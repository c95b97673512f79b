-- The loop that makes the visits of a run: it makes exactly those, until the virtual root is in hand.
use Prim.Native.Nat.{ℕ, zero, suc, ◌+◌, ◌-◌, ◌^◌, ◌<◌, ◌≤◌}
use native.Mathlib.Omega.{arith}
use mathlib.Core.Path.{◌≡◌, refl, ap, ◌∙◌}
use mathlib.Core.List.{List}
use mathlib.Core.Bool.{Bool, true, false, cond, ◌||◌}
use lib.ListN.{length}
use lib.Dec.{eqb}
use borrow.Author.Tests.{eqb-true, eq-eqb, ne_eqb}
use Rattle.pool.specs.Layout.{pool_length, set_cell, state, left, right, is_point_at}
use Rattle.pool.specs.States.{is_marked}
use Rattle.pool.proofs.Laws.{length-set_cell}
use Rattle.visit.specs.declared.Marker.{Marker}
use Rattle.visit.specs.Visit.{unmarked, visit_of, Visitable, marker}
use Rattle.reversal.specs.Reversal.{Visits, Run}
use Rattle.reversal.specs.Steps.{Ending, InHand, turn_of}

module _ (R : ℕ) (s : Marker × List ℕ) where
  abbrev p : ℕ
  p = s.0.cell

  abbrev w : List ℕ
  w = set_cell R s.1 p 0 (suc (state R s.1 p))

  -- what a visit of a point, and of a pair, gives
  abbrev of_point : Marker × List ℕ
  of_point = (marker s.0.previous p (suc s.0.visits), w)

  abbrev of_pair : Marker × List ℕ
  of_pair = (
    cond (is_marked (state R w p) || unmarked R w (left R s.1 p)) (marker (left R s.1 p) p (suc s.0.visits)) (marker p (left R s.1 p) (suc s.0.visits)),
    set_cell R (set_cell R w p 1 (right R w p)) p 2 s.0.previous,
  )

  -- a part of the words that no write to a cell changes is as it was
  pub visit-keeps : {A : Type 0} (part : List ℕ → A) → ((v : List ℕ) (i f x : ℕ) → part (set_cell R v i f x) ≡ part v) → part (visit_of R s).1 ≡ part s.1
  unfolding visit_of
  visit-keeps part same = go (is_point_at R w p)
    where
      go : (t : Bool) → part (cond t of_point of_pair).1 ≡ part s.1
      go true = same s.1 p 0 (suc (state R s.1 p))
      go false = same _ p 2 s.0.previous ∙ (same w p 1 (right R w p) ∙ same s.1 p 0 (suc (state R s.1 p)))

  visits-visit : (visit_of R s).0.visits ≡ suc s.0.visits
  unfolding visit_of
  visits-visit = go (is_point_at R w p) (is_marked (state R w p) || unmarked R w (left R s.1 p))
    where
      go : (t on : Bool)
          → (cond t of_point (
            cond on (marker (left R s.1 p) p (suc s.0.visits)) (marker p (left R s.1 p) (suc s.0.visits)),
            set_cell R (set_cell R w p 1 (right R w p)) p 2 s.0.previous,
          )).0.visits ≡ suc s.0.visits
      go true on = refl
      go false true = refl
      go false false = refl

module _ (R n : ℕ) where
  -- every visit counts
  pub counted : {k : ℕ} {s t : Marker × List ℕ} → Visits R n k s t → t.0.visits ≡ s.0.visits + k
  counted Visits.done = omega arith
  counted (Visits.more {s = s} v rest) = omega (arith, counted rest, visits-visit R s)

  -- as long as a cell is in hand there is a visit to make; the virtual root is past the cells, and then there is none
  visits-next : {k : ℕ} {s t : Marker × List ℕ} → Visits R n k s t → n < t.0.cell → s.0.cell ≤ n
      → Visitable R n s × (s.0.visits < t.0.visits) × ((j : ℕ) × Visits R n j (visit_of R s) t)
  visits-next Visits.done past bounded = absurd (omega arith)
  visits-next (Visits.more {k = k} {s = s} v rest) past bounded = (v, omega (arith, counted rest, visits-visit R s), (k, rest))

  visits_end : {k : ℕ} {s t : Marker × List ℕ} → Visits R n k s t → n < s.0.cell → s ≡ t
  visits_end Visits.done past = refl
  visits_end (Visits.more v rest) past = absurd (omega (arith, v.bounded))

  -- two runs from one start have one end
  visits-same : {j k : ℕ} {s t u : Marker × List ℕ} → Visits R n j s t → Visits R n k s u → n < t.0.cell → n < u.0.cell → t ≡ u
  visits-same Visits.done b past past' = visits_end b past
  visits-same (Visits.more v a) Visits.done past past' = absurd (omega (arith, v.bounded))
  visits-same (Visits.more v a) (Visits.more v' b) past past' = visits-same a b past past'

  pub run-same : {p : ℕ} {s t u : ℕ × List ℕ} → Run R n p s t → Run R n p s u → t ≡ u
  run-same (j, q, a) (k, q', b) = ap (λ (x : Marker × List ℕ). (x.0.visits, x.1)) (visits-same a b (omega arith) (omega arith))

  -- and as many visits
  pub run_length : {p : ℕ} {s t u : ℕ × List ℕ} (a : Run R n p s t) (b : Run R n p s u) → a.0 ≡ b.0
  run_length (j, q, a) (k, q', b) = omega (arith, counted a, counted b, ap (λ (x : ℕ × List ℕ). x.0) (run-same (j, q, a) (k, q', b)))

  -- what a turn and the loop keep: from s' on, visits lead to every end that they lead to from s
  pub record Leads (s s' : Marker × List ℕ) : Type 0 where
    pub len : length s'.1 ≡ length s.1
    pub rest : (t : Marker × List ℕ) (k : ℕ) → n < t.0.cell → Visits R n k s t → (j : ℕ) × Visits R n j s' t

  pub leads_here : (s : Marker × List ℕ) → Leads s s
  leads_here s = record { len = refl; rest = λ t k past v. (k, v) }

  leads_visit : {s s' : Marker × List ℕ} → Leads s s' → s'.0.cell ≤ n → Leads s (visit_of R s')
  leads_visit {s} {s'} l bounded =
      record {
        len = visit-keeps R s' length (length-set_cell R) ∙ l.len;
        rest = λ t k past v. let (j, left) = l.rest t k past v in (visits-next left past bounded).2;
      }

  pub leads_turn : (k : ℕ) {s s' : Marker × List ℕ} → Leads s s' → s'.0.cell ≤ n → Leads s (turn_of R k s')
  unfolding turn_of
  leads_turn zero l bounded = leads_visit l bounded
  leads_turn (suc k) {s} {s'} l bounded =
      go (eqb (visit_of R s').0.cell s'.0.cell) refl (λ (on : (visit_of R s').0.cell ≤ n). leads_turn k (leads_visit l bounded) on)
    where
      go : (t : Bool) → eqb (visit_of R s').0.cell s'.0.cell ≡ t → ((visit_of R s').0.cell ≤ n → Leads s (turn_of R k (visit_of R s')))
          → Leads s (cond t (turn_of R k (visit_of R s')) (visit_of R s'))
      go true e more = more (omega (arith, eqb-true (visit_of R s').0.cell s'.0.cell e))
      go false e more = leads_visit l bounded

  -- so there is an end from there too
  pub ending-from : {s s' : Marker × List ℕ} → Ending R n s → Leads s s' → Ending R n s'
  ending-from ends l =
      let (j, left) = l.rest ends.last ends.count ends.past ends.visits in
      record { last = ends.last; count = j; visits = left; past = ends.past; fits = ends.fits }

  pub hand_from : {s s' : Marker × List ℕ} → Ending R n s → pool_length R n ≤ length s.1 → Leads s s' → s'.0.cell ≤ n → InHand R n s'
  hand_from ends room l bounded = record { ending = ending-from ends l; bounded = bounded; room = omega (arith, l.len) }

  -- at the end, the visits and the words are those of the run
  pub leads_last : {p c : ℕ} {w₀ w : List ℕ} {m : Marker} → Leads (marker p (suc n) c, w₀) (m, w) → n < m.cell → (u : ℕ × List ℕ)
      → Run R n p (c, w₀) u → ◌≡◌ {A = ℕ × List ℕ} (m.visits, w) u
  leads_last l past u (k, q, run) =
      let (j, left) = l.rest (marker (suc n) q u.0, u.1) k (omega arith) run in
      ap (λ (s : Marker × List ℕ). (s.0.visits, s.1)) (visits_end left past)

-- with a cell in hand a visit can be made, and counted
pub hand_visit : {R n : ℕ} {s : Marker × List ℕ} → InHand R n s → Visitable R n s × (pool_length R n ≤ length s.1) × (s.0.visits + 1 < 2 ^ 32)
hand_visit {R} {n} h =
    let (v, fewer, others) = visits-next R n h.ending.visits h.ending.past h.bounded in
    (v, h.room, omega (arith, fewer, h.ending.fits))

-- where the cell stays in hand after a visit the turn goes on, and else it is over
module _ (R : ℕ) (s : Marker × List ℕ) {t : Marker × List ℕ} (visited : t ≡ visit_of R s) where
  pub hand_again : {n : ℕ} → InHand R n s → t.0.cell ≡ s.0.cell → InHand R n t
  hand_again {n} h stays =
      let on : Leads R n s t = rw visited (leads_visit R n (leads_here R n s) h.bounded) in
      hand_from R n h.ending h.room on (omega (arith, h.bounded))

  pub turn_once : (k : ℕ) → k ≤ 0 → t ≡ turn_of R k s
  unfolding turn_of
  turn_once zero none = visited
  turn_once (suc k) none = absurd (omega arith)

  pub turn_again : (k : ℕ) → 0 < k → t.0.cell ≡ s.0.cell → turn_of R (k - 1) t ≡ turn_of R k s
  unfolding turn_of
  turn_again zero some stays = absurd (omega arith)
  turn_again (suc k) some stays = let less : suc k - 1 ≡ k = omega arith in rw (less, ← visited, eq-eqb t.0.cell s.0.cell stays)

  pub turn_moved : (k : ℕ) → 0 < k → (t.0.cell ≡ s.0.cell → ⊥) → t ≡ turn_of R k s
  unfolding turn_of
  turn_moved zero some moved = absurd (omega arith)
  turn_moved (suc k) some moved = rw (← visited, ne_eqb t.0.cell s.0.cell moved) refl

pub turn_by_lem : (R j k : ℕ) (s : Marker × List ℕ) {t : Marker × List ℕ} → t ≡ turn_of R k s → j ≡ k → t ≡ turn_of R j s
turn_by_lem R j k s made same = rw same made

-- a turn is counted, and leaves fewer numbers to count with
turn_counts : (R k : ℕ) (s : Marker × List ℕ) → s.0.visits < (turn_of R k s).0.visits
unfolding turn_of
turn_counts R zero s = omega (arith, visits-visit R s)
turn_counts R (suc k) s = go (eqb (visit_of R s).0.cell s.0.cell) (turn_counts R k (visit_of R s))
  where
    go : (t : Bool) → (visit_of R s).0.visits < (turn_of R k (visit_of R s)).0.visits
        → s.0.visits < (cond t (turn_of R k (visit_of R s)) (visit_of R s)).0.visits
    go true more = omega (arith, visits-visit R s)
    go false more = omega (arith, visits-visit R s)

module _ {R n : ℕ} (k : ℕ) {s s' t : Marker × List ℕ} (made : t ≡ turn_of R k s') (l : Leads R n s s') (bounded : s'.0.cell ≤ n) where
  pub turn_leads : Leads R n s t
  turn_leads = rw made (leads_turn R n k l bounded)

  pub turn_less : Ending R n s → 2 ^ 32 - t.0.visits < 2 ^ 32 - s'.0.visits
  turn_less ends =
      let after = ending-from R n ends turn_leads in
      omega (arith, turn_counts R k s', ap (λ (x : Marker × List ℕ). x.0.visits) made, counted R n after.visits, after.fits)

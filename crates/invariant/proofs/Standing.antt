-- A standing pool: words that are a well-formed pool of N cells, whatever its free list. What its questions answer, and that writes of links keep it.
use Prim.Native.Nat.{ℕ, zero, suc, ◌+◌, ◌*◌, ◌<◌, ◌≤◌}
use native.Mathlib.Omega.{arith}
use native.Mathlib.Decide.{ℕ_discrete}
use mathlib.Core.Path.{◌≡◌, refl, sym, ap, ◌∙◌}
use mathlib.Core.List.{List}
use mathlib.Core.Bool.{Bool, true, false, cond, not, false≢true}
use lib.ListN.{length}
use borrow.Author.Tests.{eq-eqb, ne_eqb, lt-ltb}
use Rattle.pool.specs.Layout.{register_count, pool_length, cell_count, count, register, set_register, cell, set_cell, state, is_point_at, link_of}
use Rattle.pool.specs.States.{is_point, is_used, is_free}
use Rattle.questions.specs.Questions.{are_registers, holds_link}
use Rattle.answers.specs.Outcome.{Outcome, refused}
use Rattle.pool.proofs.Laws.{length-set_register, count-set_register, cell-set_register, register-same, register_other, length-set_cell, count-set_cell, register-set_cell, cell_same, cell_other}
use Rattle.pool.proofs.Links.{link-pair, link-point, link-same}
use Rattle.pool.proofs.Sizes.{Sized, same_count}
use Rattle.questions.proofs.WellFormed.{Link, Cell, WellFormed, link_made}
use Rattle.questions.proofs.PoolGraph.{Used, used-links}
use Rattle.operations.specs.Operations.{is_of_kind, cell_to, with_cell, with_kind}
use Rattle.std.proofs.Common.{Result, Ok, Err}
use Rattle.answers.specs.declared.Refusal.{Refusal}
use Rattle.answers.specs.declared.Refusal.TheVariants as refusal
use Rattle.calls.specs.declared.Call.{Call}
use Rattle.calls.specs.Calls.{registers_of, body_of, call_of}

pub record Standing (N : ℕ) (w : List ℕ) : Type 0 where
  pub sized : Sized register_count (length w) N
  pub counted : count w ≡ N
  pub well : WellFormed register_count N w

-- What holds of fields 1 and 2, left and right, holds of both.
pub each_link : (Q : ℕ → Type 0) → Q 1 → Q 2 → (f : ℕ) → 0 < f → f < 3 → Q f
each_link Q left right zero above below = absurd (omega arith)
each_link Q left right (suc zero) above below = left
each_link Q left right (suc (suc zero)) above below = right
each_link Q left right (suc (suc (suc f))) above below = absurd (omega arith)

module _ {N : ℕ} {w : List ℕ} (pool : Standing N w) where
  pub standing_cells : cell_count register_count w ≡ N
  standing_cells =
      let cells = pool.sized.counted in
      same_count register_count w (pool.counted ∙ sym cells) ∙ cells

  pub standing_room : pool_length register_count N ≤ length w
  standing_room = pool.sized.room

  -- The first question is answered with yes.
  pub called : (c : Call) → call_of c w ≡ cond (are_registers (registers_of c)) (body_of c N w) (refused 2, w)
  called c = go (are_registers (registers_of c)) refl
    where
      go : (t : Bool) → are_registers (registers_of c) ≡ t → call_of c w ≡ cond t (body_of c N w) (refused 2, w)
      go true e = simp (standing_cells, lt-ltb 0 N pool.sized.least, e)
      go false e = simp (standing_cells, lt-ltb 0 N pool.sized.least, e)

  module _ (a : ℕ) (low : a < register_count) where
    -- Every register holds a valid link.
    pub holds_link_lem : holds_link N w a ≡ true
    holds_link_lem = link_made register_count N w (register w a) (pool.well.registers a low)

    -- A register that holds nil, and one that holds a cell.
    pub on_nil : register w a ≡ 0 → (body : ℕ → Outcome × List ℕ) → with_cell N w a body ≡ (refused 4, w)
    on_nil e body = rw (holds_link_lem, eq-eqb (register w a) 0 e)

    pub on_cell_lem : 0 < register w a → (body : ℕ → Outcome × List ℕ) → with_cell N w a body ≡ body (register w a)
    on_cell_lem some body = rw (holds_link_lem, ne_eqb (register w a) 0 (λ e. omega arith))

    -- Where a cell of one kind is asked for, its kind decides.
    pub on_nil_kind : register w a ≡ 0 → (point : Bool) (body : ℕ → Outcome × List ℕ) → with_kind point N w a body ≡ (refused 4, w)
    on_nil_kind e point body = rw (holds_link_lem, eq-eqb (register w a) 0 e)

    pub on_kind_lem : 0 < register w a → (point : Bool) (body : ℕ → Outcome × List ℕ)
        → with_kind point N w a body ≡ cond (is_of_kind point w (register w a)) (body (register w a)) (refused 13, w)
    on_kind_lem some point body = rw (holds_link_lem, ne_eqb (register w a) 0 (λ e. omega arith)) (go (is_of_kind point w (register w a)))
      where
        go : (t : Bool) → cell_to w body (cond t (Ok (register w a)) (Err refusal.Kind)) ≡ cond t (body (register w a)) (refused 13, w)
        go true = refl
        go false = refl

    -- That cell is used, and a pair has valid links.
    pub held-used : 0 < register w a → Used register_count N w (register w a)
    held-used some = go (pool.well.registers a low)
      where
        go : Link register_count N w (register w a) → Used register_count N w (register w a)
        go (Link.nil e) = absurd (omega arith)
        go (Link.used positive bounded s) = record { positive = positive; bounded = bounded; state = s }

    pub held_link : 0 < register w a → is_point_at register_count w (register w a) ≡ false → (f : ℕ) → 0 < f → f < 3
        → Link register_count N w (cell register_count w (register w a) f)
    held_link some pair =
        let links = used-links pool.well (held-used some) in
        each_link (λ f. Link register_count N w (cell register_count w (register w a) f)) (rw (link-pair register_count w (register w a) 1 pair) at links.0)
        (rw (link-pair register_count w (register w a) 2 pair) at links.1)

-- The kind that was asked for is that of the cell.
pub of_kind_lem : (point : Bool) (w : List ℕ) (x : ℕ) → is_of_kind point w x ≡ true → is_point_at register_count w x ≡ point
of_kind_lem point w x = go (is_point_at register_count w x) point
  where
    go : (t point : Bool) → cond t point (not point) ≡ true → t ≡ point
    go true true e = refl
    go true false e = absurd (false≢true e)
    go false true e = absurd (false≢true e)
    go false false e = refl

-- A valid link stays valid where used cells stay used.
pub link-kept : {N : ℕ} {w : List ℕ} (w' : List ℕ) → ((i : ℕ) → 0 < i → is_used (state register_count w i) ≡ true → is_used (state register_count w' i) ≡ true)
    → {x : ℕ} → Link register_count N w x → Link register_count N w' x
link-kept w' used (Link.nil e) = Link.nil e
link-kept w' used {x} (Link.used low high s) = Link.used low high (used x low s)

-- Words that differ only in registers, links and values, and whose registers and used cells have valid links.
record Rewritten (N : ℕ) (w w' : List ℕ) : Type 0 where
  len : length w' ≡ length w
  counted : count w' ≡ count w
  states : (i : ℕ) → 0 < i → state register_count w' i ≡ state register_count w i
  registers : (k : ℕ) → k < register_count → Link register_count N w (register w' k)
  links : (i : ℕ) → 0 < i → Link register_count N w (link_of register_count w i 1) → Link register_count N w (link_of register_count w i 2)
      → Link register_count N w (link_of register_count w' i 1) × Link register_count N w (link_of register_count w' i 2)

rewritten : {N : ℕ} {w w' : List ℕ} → Rewritten N w w' → Standing N w → Standing N w'
rewritten {N} {w} {w'} c pool =
    record {
      sized = rw c.len pool.sized;
      counted = c.counted ∙ pool.counted;
      well = record { registers = λ k low. along (c.registers k low); cells = λ i low high. cells i low (pool.well.cells i low high) };
    }
  where
    along : {x : ℕ} → Link register_count N w x → Link register_count N w' x
    along = link-kept w' (λ i low s. rw (c.states i low) s)

    cells : (i : ℕ) → 0 < i → Cell register_count N w i → Cell register_count N w' i
    cells i low (Cell.free s) = Cell.free (ap is_free (c.states i low) ∙ s)
    cells i low (Cell.used s l r) =
        let links = c.links i low l r in
        Cell.used (ap is_used (c.states i low) ∙ s) (along links.0) (along links.1)

-- A write of a register changes no link of a cell.
pub link-set_register : (w : List ℕ) (r v i f : ℕ) → r < register_count → link_of register_count (set_register w r v) i f ≡ link_of register_count w i f
link-set_register w r v i f low =
    link-same register_count (set_register w r v) w i i f (ap is_point (cell-set_register register_count w r v i 0 low)) (cell-set_register register_count w r v i f low)

module _ {N : ℕ} {w : List ℕ} (pool : Standing N w) where
  pub standing_register : (r v : ℕ) → r < register_count → register (set_register w r v) r ≡ v
  standing_register r v low = register-same register_count w r v (omega (arith, pool.sized.room, pool.sized.least))

  pub standing_set_register : (r v : ℕ) → r < register_count → Link register_count N w v → Standing N (set_register w r v)
  standing_set_register r v low link =
      rewritten
      (record {
        len = length-set_register register_count w r v;
        counted = count-set_register register_count w r v;
        states = λ i some. cell-set_register register_count w r v i 0 low;
        registers = λ k below. registers k below (ℕ_discrete k r);
        links = λ i some left right. (rw (link-set_register w r v i 1 low) left, rw (link-set_register w r v i 2 low) right);
      })
      pool
    where
      registers : (k : ℕ) → k < register_count → Dec (k ≡ r) → Link register_count N w (register (set_register w r v) k)
      registers k below (yes same) = rw (same, standing_register r v low) link
      registers k below (no other) = rw (register_other register_count w r v k other) (pool.well.registers k below)

  -- A link of a cell, or its value, is changed.
  pub standing_set_cell : (x f v : ℕ) → 0 < x → x ≤ N → 0 < f → f < 4 → (f < 3 → Link register_count N w v) → Standing N (set_cell register_count w x f v)
  standing_set_cell x f v low high positive below link =
      rewritten
      (record {
        len = length-set_cell register_count w x f v;
        counted = count-set_cell register_count w x f v;
        states = λ i some. cell_other register_count w x f v i 0 low below some (omega arith) (λ e. omega arith);
        registers = λ k some. rw (register-set_cell register_count w x f v k some) (pool.well.registers k some);
        links = λ i some left right. (links i 1 some (omega arith) left, links i 2 some (omega arith) right);
      })
      pool
    where
      kind : (i : ℕ) → 0 < i → is_point_at register_count (set_cell register_count w x f v) i ≡ is_point_at register_count w i
      kind i some = ap is_point (cell_other register_count w x f v i 0 low below some (omega arith) (λ e. omega arith))

      links : (i g : ℕ) → 0 < i → g < 3 → Link register_count N w (link_of register_count w i g)
          → Link register_count N w (link_of register_count (set_cell register_count w x f v) i g)
      links i g some few old = go (is_point_at register_count w i) refl (ℕ_discrete (4 * x + f) (4 * i + g))
        where
          go : (t : Bool) → is_point_at register_count w i ≡ t → Dec (4 * x + f ≡ 4 * i + g) → Link register_count N w (link_of register_count (set_cell register_count w x f v) i g)
          go true is e = Link.nil (link-point register_count (set_cell register_count w x f v) i g (kind i some ∙ is))
          go false is (yes e) =
              let cell-here : i ≡ x = omega arith in
              let field-here : g ≡ f = omega arith in
              rw (
                link-pair register_count (set_cell register_count w x f v) i g (kind i some ∙ is),
                cell-here,
                field-here,
                cell_same register_count w x f v low below (omega (arith, pool.sized.room)),
              )
              (link (omega arith))
          go false is (no e) =
              rw (link-same register_count (set_cell register_count w x f v) w i i g (kind i some) (cell_other register_count w x f v i g low below some (omega arith) e)) old

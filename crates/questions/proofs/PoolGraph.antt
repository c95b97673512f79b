-- A well-formed pool, seen as a graph: its links stay within the cells, and what its registers reach is used.
use Prim.Native.Nat.{ℕ, ◌<◌, ◌≤◌}
use native.Mathlib.Omega.{arith}
use mathlib.Core.Path.{◌≡◌, sym, ◌∙◌}
use mathlib.Core.Bool.{true, false≢true}
use mathlib.Core.List.{List, Memᴰ}
use Rattle.graph.specs.Graph.{Reach, Within}
use Rattle.pool.specs.Layout.{register, state, link_of, graph_of, roots_of}
use Rattle.pool.specs.States.{is_used}
use Rattle.pool.proofs.Every.{tabulate-member}
use Rattle.pool.proofs.States.{free_not_used}
use Rattle.questions.proofs.WellFormed.{Link, Cell, WellFormed}

-- x is a used cell
pub record Used (R n : ℕ) (w : List ℕ) (x : ℕ) : Type 0 where
  pub positive : 0 < x
  pub bounded : x ≤ n
  pub state : is_used (state R w x) ≡ true

module _ {R n : ℕ} {w : List ℕ} where
  link-used : {x : ℕ} → Link R n w x → 0 < x → Used R n w x
  link-used (Link.nil e) h = absurd (omega arith)
  link-used (Link.used positive bounded s) h = record { positive = positive; bounded = bounded; state = s }

  pub link_bound : {x : ℕ} → Link R n w x → x ≤ n
  link_bound (Link.nil e) = omega arith
  link_bound (Link.used positive bounded s) = bounded

  module _ (well : WellFormed R n w) where
    pub used-links : {x : ℕ} → Used R n w x → Link R n w (link_of R w x 1) × Link R n w (link_of R w x 2)
    used-links {x} u = go (well.cells x u.positive u.bounded)
      where
        go : Cell R n w x → Link R n w (link_of R w x 1) × Link R n w (link_of R w x 2)
        go (Cell.free s) = absurd (false≢true (sym (free_not_used (state R w x) s) ∙ u.state))
        go (Cell.used s l r) = (l, r)

    root-link : {x : ℕ} → Memᴰ x (roots_of R w) → Link R n w x
    root-link {x} mem = let (k, low, e) = tabulate-member R (λ k. register w k) x mem in rw e (well.registers k low)

    -- what the registers reach is used
    pub reached-used : {x : ℕ} → Reach (graph_of R w) (roots_of R w) x → Used R n w x
    reached-used (Reach.root mem h) = link-used (root-link mem) h
    reached-used (Reach.left reach h) = link-used (used-links (reached-used reach)).0 h
    reached-used (Reach.right reach h) = link-used (used-links (reached-used reach)).1 h

    -- no link that can be reached leads past the cells
    pub pool-within : Within n (graph_of R w) (roots_of R w)
    pool-within =
        record {
          root = λ x mem. link_bound (root-link mem);
          left = λ x reach. link_bound (used-links (reached-used reach)).0;
          right = λ x reach. link_bound (used-links (reached-used reach)).1;
        }

-- A turn of the marker with a stack, case by case.
use Prim.Native.Nat.{ℕ, zero, suc}
use mathlib.Core.Path.{◌≡◌, refl, ap, ◌∙◌}
use mathlib.Core.List.{List, [], ◌∷◌, ◌++◌, append-nil}
use mathlib.Core.Bool.{Bool}
use lib.ListN.{length}
use borrow.Author.Tests.{eq-eqb, ne_eqb}
use Rattle.graph.specs.Graph.{Graph}
use Rattle.stack_algorithm.specs.Stack.{is_unmarked, unmarked_links, holding, run}
use Rattle.stack_algorithm.specs.StackTheorem.{TurnCases, StackCases}

-- where nothing is pending the run has ended
pub run_none : (turns : ℕ) (g : Graph) (seen : List ℕ) → run turns g seen [] ≡ (seen, 0)
unfolding run
run_none zero g seen = refl
run_none (suc turns) g seen = refl

pub stack_cases : StackCases
unfolding run
stack_cases turns g seen = (run_none turns g seen, λ p stack. cases p stack (is_unmarked seen (g.left p)) (is_unmarked seen (g.right p)) refl refl)
  where
    cases : (p : ℕ) (stack : List ℕ) (a b : Bool) → is_unmarked seen (g.left p) ≡ a → is_unmarked seen (g.right p) ≡ b
        → TurnCases turns g seen p stack (g.left p) (g.right p) a b
    cases p stack a b ea eb =
        record {
          none = λ x y. made x y ∙ ap (λ (l : List ℕ). holding (length stack) (run turns g l stack)) (append-nil seen);
          left = made;
          right = made;
          equal = λ x y e. made x y ∙ rw (eq-eqb (g.left p) (g.right p) e);
          both = λ x y apart. made x y ∙ rw (ne_eqb (g.left p) (g.right p) apart);
        }
      where
        made : {c d : Bool} → a ≡ c → b ≡ d → run (suc turns) g seen (p ∷ stack)
            ≡ holding (length stack) (run turns g (seen ++ unmarked_links c d (g.left p) (g.right p)) (unmarked_links c d (g.left p) (g.right p) ++ stack))
        made x y = rw (ea, eb, x, y)

-- A collected pool represents what the pool did, and `collect` answers as the reference model does.
use Prim.Native.Nat.{ℕ}
use mathlib.Core.Path.{refl}
use mathlib.Core.List.{List, [], ◌∷◌}
use Rattle.graph.proofs.Pairing.{paired_reach}
use Rattle.pool.specs.Layout.{register_count}
use Rattle.answers.specs.Outcome.{answered}
use Rattle.pool.proofs.Retained.{retain-register}
use Rattle.questions.proofs.WellFormed.{well_formed_made}
use Rattle.reversal.specs.Reached.{is_reached}
use Rattle.collector.specs.Collect.{collected, collect_in}
use Rattle.collector.proofs.Collected.{collected_field}
use Rattle.reference.specs.Model.{Model, live, live_visits}
use Rattle.invariant.proofs.Standing.{Standing, standing_room}
use Rattle.reference.proofs.Represents.{Pair, alike_same, Represents, rep_made, root-pair, kept-live, visits-live}
use Rattle.reference.proofs.Steps.{Step}

module _ {N : ℕ} {w : List ℕ} (pool : Standing N w) where
  pub collected_rep : {m : Model} → Represents w m → Represents (collected register_count N w) m
  collected_rep {m} rep =
      rep_made (collected register_count N w) m (Pair w m) rep.one_to_one rep.bounded
      (λ k low. rw (retain-register register_count N (is_reached register_count N w) w (standing_room pool) k low) (root-pair rep k low))
      (λ x y pair hx hy.
      alike_same (collected register_count N w) (λ f hf. collected_field register_count N w pool.well (standing_room pool) f hf (paired_reach pair hx))
      (rep.alike x y pair hx hy))

  pub collect_step : {m : Model} → Represents w m → Step (collect_in N w) (answered (live m ∷ live_visits m ∷ []), m)
  collect_step {m} rep =
      rw (well_formed_made register_count N w pool.well, visits-live rep pool, kept-live rep pool) (record { answer = refl; rep = collected_rep rep })

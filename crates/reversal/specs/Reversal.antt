-- The runs of marking by link reversal (01, "Marking by reversal", after Gries 2006).
use Rattle.std.specs.Prelude.{ℕ, suc, ◌≡◌, List, [], ◌∷◌, true, false}
use Rattle.visit.specs.declared.Marker.{Marker}
use Rattle.visit.specs.Visit.{unmarked, visit_of, Visitable, marker}

-- `Visits R n k s t`: k visits, one after the other, lead from s to t, and each may rely on what it needs.
pub data Visits (R n : ℕ) : ℕ → Marker × List ℕ → Marker × List ℕ → Type 0 where
  done : {s : Marker × List ℕ} → Visits R n 0 s s
  more : {k : ℕ} {s t : Marker × List ℕ} → Visitable R n s → Visits R n k (visit_of R s) t → Visits R n (suc k) s t

-- "q starts as the virtual root, which is no cell, and the run ends when p is that": a run from the link p leads from s to t, each the number of
-- visits and the words. The virtual root is n + 1.
abbrev pub Run : ℕ → ℕ → ℕ → ℕ × List ℕ → ℕ × List ℕ → Type 0
Run R n p s t = (k q : ℕ) × Visits R n k (marker p (suc n) s.0, s.1) (marker (suc n) q t.0, t.1)

-- "It runs from each register in order .. whose cell has state 0", or is a point: the links of the registers are given; a pair is the number of visits and the
-- words, before and after.
pub data MarkRoots (R n : ℕ) : List ℕ → ℕ × List ℕ → ℕ × List ℕ → Type 0 where
  none : {s : ℕ × List ℕ} → MarkRoots R n [] s s
  skip : {p : ℕ} {ps : List ℕ} {s t : ℕ × List ℕ} → unmarked R s.1 p ≡ false → MarkRoots R n ps s t → MarkRoots R n (p ∷ ps) s t
  run : {p : ℕ} {ps : List ℕ} {s u t : ℕ × List ℕ} → unmarked R s.1 p ≡ true → Run R n p s u → MarkRoots R n ps u t
      → MarkRoots R n (p ∷ ps) s t

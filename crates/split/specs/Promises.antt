-- What is shown of every net that is split, of the definitions: the statements, each with the name of its proof.
use Rattle.std.specs.Prelude.{◌≡◌, Bool, false, List, ℕ, ◌*◌, ℤ, pos}
use Rattle.net.specs.Net.{Index, vertex_at, Field}
use Rattle.net.specs.Refusals.{AcceptedNet}
use Rattle.details.specs.Refusals.{details_beyond}
use Rattle.coarse.specs.Coarse.{coarse_side, coarsened}
use Rattle.split.specs.Split.{detail_of}
use Rattle.split.specs.Answers.{split_refusal_with, split_coarse, split_details}

-- 'at kept vertices it is always zero': of every field (`kept_details`)
abbrev pub KeptDetails : Type 0
KeptDetails =
    (F : Field) (i j : ℕ) (k : Index) → detail_of F (coarsened F) (vertex_at (2 * i) (2 * j)) k ≡ pos 0

-- the coarse net of an accepted split is a net that is taken again (`coarse_accepted`)
abbrev pub CoarseAccepted : Type 0
CoarseAccepted =
    (net : List ℤ) (w h : ℕ) (short : Bool) (coarse details : List ℤ) →
    split_refusal_with net w h short coarse details ≡ 0 →
    AcceptedNet (split_coarse 0 net w h coarse) (coarse_side w) (coarse_side h)

-- its details lie in the range of details (`details_within`)
abbrev pub DetailsWithin : Type 0
DetailsWithin =
    (net : List ℤ) (w h : ℕ) (short : Bool) (coarse details : List ℤ) →
    split_refusal_with net w h short coarse details ≡ 0 →
    details_beyond (split_details 0 net w h details) w h ≡ false

-- Document 01, "Door corner": the listing of the net, refined once, is the text that document 01 prints.
use Rattle.std.specs.Prelude.{◌≡◌, refl, List, [], ◌∷◌, ℕ, pos}
use Rattle.exact.specs.Filling.{runs}
use Rattle.exact.specs.Rounding.{rounded, floor_quotient}
use Rattle.net.specs.Net.{control_point, control_triangle, grid}
use Rattle.net.specs.Refusals.{net_beyond}
use Rattle.spline.specs.Spline.{spline}
use Rattle.surface.specs.SurfacePoint.{coordinate}
use Rattle.subdivision.specs.Refinement.{refinement, exact_refinement}
use Rattle.steps.specs.RefinedNet.{stored, refined_net}
use Rattle.words.specs.NetFile.{word_bytes, first_word, point_bytes, net_file, first_point}
use Rattle.decimal.specs.Decimal.{digits_of, decimal, signed_decimal}
use Rattle.listing_text.specs.Listing.{head_line, point_line, listing}
use Rattle.listing_input.specs.Printed.{printed}
use Rattle.door_corner.specs.DoorCorner.{door_corner}

-- what document 01 prints
abbrev door_text : List ℕ
door_text =
    -- net 3 3
    110 ∷ 101 ∷ 116 ∷ 32 ∷ 51 ∷ 32 ∷ 51 ∷ 10
    -- 0 0 0 0 40
    ∷ 48 ∷ 32 ∷ 48 ∷ 32 ∷ 48 ∷ 32 ∷ 48 ∷ 32 ∷ 52 ∷ 48 ∷ 10
    -- 1 0 600 0 40
    ∷ 49 ∷ 32 ∷ 48 ∷ 32 ∷ 54 ∷ 48 ∷ 48 ∷ 32 ∷ 48 ∷ 32 ∷ 52 ∷ 48 ∷ 10
    -- 2 0 1200 0 0
    ∷ 50 ∷ 32 ∷ 48 ∷ 32 ∷ 49 ∷ 50 ∷ 48 ∷ 48 ∷ 32 ∷ 48 ∷ 32 ∷ 48 ∷ 10
    -- 0 1 0 600 30
    ∷ 48 ∷ 32 ∷ 49 ∷ 32 ∷ 48 ∷ 32 ∷ 54 ∷ 48 ∷ 48 ∷ 32 ∷ 51 ∷ 48 ∷ 10
    -- 1 1 600 600 0
    ∷ 49 ∷ 32 ∷ 49 ∷ 32 ∷ 54 ∷ 48 ∷ 48 ∷ 32 ∷ 54 ∷ 48 ∷ 48 ∷ 32 ∷ 48 ∷ 10
    -- 2 1 1200 600 0
    ∷ 50 ∷ 32 ∷ 49 ∷ 32 ∷ 49 ∷ 50 ∷ 48 ∷ 48 ∷ 32 ∷ 54 ∷ 48 ∷ 48 ∷ 32 ∷ 48 ∷ 10
    -- 0 2 0 1200 0
    ∷ 48 ∷ 32 ∷ 50 ∷ 32 ∷ 48 ∷ 32 ∷ 49 ∷ 50 ∷ 48 ∷ 48 ∷ 32 ∷ 48 ∷ 10
    -- 1 2 600 1200 0
    ∷ 49 ∷ 32 ∷ 50 ∷ 32 ∷ 54 ∷ 48 ∷ 48 ∷ 32 ∷ 49 ∷ 50 ∷ 48 ∷ 48 ∷ 32 ∷ 48 ∷ 10
    -- 2 2 1200 1200 0
    ∷ 50 ∷ 32 ∷ 50 ∷ 32 ∷ 49 ∷ 50 ∷ 48 ∷ 48 ∷ 32 ∷ 49 ∷ 50 ∷ 48 ∷ 48 ∷ 32 ∷ 48 ∷ 10
    ∷ []

pub door_listing : listing (refined_net (door_corner (pos 120)) 2 2 1) 3 3 ≡ door_text
unfolding listing head_line point_line signed_decimal decimal digits_of runs refined_net stored grid coordinate spline refinement exact_refinement rounded floor_quotient control_triangle control_point
door_listing = refl

-- and of the net's file that is what is printed
pub door_input : printed (net_file (door_corner (pos 120)) 2 2) ≡ door_text
unfolding net_beyond net_file word_bytes point_bytes first_word first_point listing head_line point_line signed_decimal decimal digits_of runs refined_net stored grid coordinate spline refinement exact_refinement rounded floor_quotient control_triangle control_point
door_input = refl

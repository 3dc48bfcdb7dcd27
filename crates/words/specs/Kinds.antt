-- Document 01, "Net file": the number of each kind of word.
use Rattle.std.specs.Prelude.{◌≡◌, refl, ℕ}
use Rattle.words.specs.declared.kinds.Kind.{Kind}
use Rattle.words.specs.declared.kinds.Kind.TheVariants as kind
use Rattle.words.specs.NetFile.{width_kind, height_kind, x_kind, y_kind, z_kind, end_kind}

abbrev pub kind_number : Kind → ℕ
kind_number kind.Width = width_kind
kind_number kind.Height = height_kind
kind_number kind.X = x_kind
kind_number kind.Y = y_kind
kind_number kind.Z = z_kind
kind_number kind.End = end_kind

-- worked case: 'Kinds: 1 width, 2 height; 3 x, 4 y, 5 z; 6 end'
six_numbers :
    (kind_number kind.Width ≡ 1)
    × (kind_number kind.Height ≡ 2)
    × (kind_number kind.X ≡ 3)
    × (kind_number kind.Y ≡ 4)
    × (kind_number kind.Z ≡ 5)
    × (kind_number kind.End ≡ 6)
six_numbers = (refl, refl, refl, refl, refl, refl)

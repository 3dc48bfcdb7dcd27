-- The calls of document 01 and of document 02, a, for callers in C and Rust: an answer is a document's number, 0 where
-- the call is accepted, and a result goes into a lent output, in whose place the document's order has 5.
use Rattle.std.specs.Prelude.{◌≡◌, refl, true, false, ◌||◌, List, [], ◌∷◌, ℕ, ◌-◌, ltb, eqb, ℤ, pos, length, replicate}
use Rattle.exact.specs.Filling.{runs}
use Rattle.net.specs.Net.{Triangle, triangle_at, numbers, squares}
use Rattle.net.specs.Refusals.{first_fault, bad_size, short_net, net_beyond, zeros, too_large, too_few}
use Rattle.triangles.specs.Refusals.{triangle_beyond}
use Rattle.bezier.specs.Refusals.{no_triangle}
use Rattle.surface.specs.Refusals.{point_refusal_with}
use Rattle.graphs.specs.Reaching.{reached, all_reached}
use Rattle.outline.specs.Connected.{connected}
use Rattle.outline.specs.Refusals.{bad_byte}
use Rattle.door.specs.Door.{on_door}
use Rattle.outlined_points.specs.Refusals.{outlined_point_refusal}
use Rattle.outlined_refined_points.specs.Answers.{outlined_refusal_at}
use Rattle.refined_points.specs.Answers.{refusal_at}
use Rattle.seam.specs.Answers.{seam_refusal_at}
use Rattle.words.specs.NetFile.{word_bytes, first_word, point_bytes, net_file, file_size, file_width, file_height}
use Rattle.writer.specs.Refusals.{write_refusal, no_room}
use Rattle.reader.specs.Refusals.{read_refusal, short_for}

-- `down` is 0 for the up triangle and 1 for the down triangle; another number names no triangle
abbrev pub exported_triangle : ℕ → ℕ → ℕ → Triangle
exported_triangle i j down = triangle_at i j (eqb down 1)

abbrev pub bezier_export : List ℤ → ℕ → ℕ → ℕ → ℕ → ℕ → ℕ → ℕ
bezier_export net w h i j down room =
    first_fault
    ((bad_size w h, 1)
    ∷ (no_triangle w h i j || ltb 1 down, 6)
    ∷ (short_net net w h, 2)
    ∷ (ltb room 57, 5)
    ∷ (triangle_beyond net w (exported_triangle i j down), 3)
    ∷ [])

-- three numbers of room for a point
abbrev pub point_export : List ℤ → ℕ → ℕ → ℕ → ℕ → ℕ → ℕ
point_export net w h p q room = point_refusal_with net w h p q (ltb room 3)

-- of a refined point, 5 is of the output, of the scratch or of the point's three numbers
abbrev pub refined_point_export : List ℤ → ℕ → ℕ → ℕ → ℕ → ℕ → List ℤ → List ℤ → List ℤ → ℕ
refined_point_export net w h k p q out scratch point = refusal_at net w h k p q (ltb (length point) 3) out scratch

-- of the two points of a seam, 5 is of either output, of either scratch or of the points' six numbers
abbrev pub seam_export : List ℤ → ℕ → ℕ → ℕ → ℕ → ℕ → ℕ → ℕ → ℕ → List ℤ → List ℤ → List ℤ → List ℤ → List ℤ → ℕ
seam_export net w h k l p q p2 q2 out scratch out2 scratch2 points =
    seam_refusal_at net w h k l p q p2 q2 (ltb (length points) 6) out scratch out2 scratch2

-- document 02, a: points, also of a refined net, with an outline
abbrev pub outlined_point_export : List ℤ → ℕ → ℕ → List ℕ → ℕ → ℕ → ℕ → ℕ
outlined_point_export net w h outline p q room = outlined_point_refusal net w h outline p q (ltb room 3)

abbrev pub outlined_refined_export : List ℤ → ℕ → ℕ → ℕ → List ℕ → ℕ → ℕ → List ℤ → List ℤ → List ℕ → List ℕ → List ℤ → ℕ
outlined_refined_export net w h k outline p q out scratch fine search point =
    outlined_refusal_at net w h k outline p q (ltb (length point) 3) out scratch fine search

-- the count of bytes needs room for one number, and 5 is of either output
abbrev pub write_export : List ℤ → ℕ → ℕ → ℕ → ℕ → ℕ
write_export net w h room counts = write_refusal net w h (ltb counts 1 || no_room w h room)

abbrev pub written_count : ℕ → ℕ → List ℕ
written_count w h = file_size w h ∷ []

-- width and height need room for two, width first
abbrev pub read_export : List ℕ → ℕ → ℕ → ℕ
read_export file room sides = read_refusal file (ltb sides 2 || short_for file room)

abbrev pub read_size : List ℕ → List ℕ
read_size file = file_width file ∷ file_height file ∷ []

-- ---- worked cases: every fault at once, and then without the one that was found, to none

abbrev net32 : List ℤ
net32 = squares (numbers 3 2)

bezier_order :
    (bezier_export too_few 1026 2 0 0 2 56 ≡ 1)
    × (bezier_export too_few 2 2 0 0 2 56 ≡ 6)
    × (bezier_export too_few 2 2 0 0 1 56 ≡ 2)
    × (bezier_export (too_large (numbers 2 2 - 1)) 2 2 0 0 1 56 ≡ 5)
    × (bezier_export (too_large (numbers 2 2 - 1)) 2 2 0 0 1 57 ≡ 3)
    × (bezier_export (too_large (numbers 2 2 - 1)) 2 2 0 0 0 57 ≡ 0)
bezier_order = (refl, refl, refl, refl, refl, refl)

triangles : (exported_triangle 3 5 0 ≡ triangle_at 3 5 false) × (exported_triangle 3 5 1 ≡ triangle_at 3 5 true)
triangles = (refl, refl)

point_order :
    (point_export too_few 1026 2 1049601 1024 2 ≡ 1)
    × (point_export too_few 2 2 1025 1024 2 ≡ 6)
    × (point_export too_few 2 2 1024 1024 2 ≡ 2)
    × (point_export (too_large (numbers 2 2 - 1)) 2 2 1024 1024 2 ≡ 5)
    × (point_export (too_large (numbers 2 2 - 1)) 2 2 1024 1024 3 ≡ 3)
    × (point_export zeros 2 2 1024 1024 3 ≡ 0)
point_order = (refl, refl, refl, refl, refl, refl)

-- of the net of 3 by 2 whose numbers are the squares, whose sides tell columns from rows: the last triangle, the last
-- place, the last place after no step, and the same with columns and rows exchanged
columns_and_rows :
    (bezier_export net32 3 2 1 0 1 57 ≡ 0)
    × (bezier_export net32 3 2 0 1 1 57 ≡ 6)
    × (point_export net32 3 2 2048 1024 3 ≡ 0)
    × (point_export net32 3 2 1024 2048 3 ≡ 6)
    × (refined_point_export net32 3 2 0 2048 1024 net32 [] (pos 7 ∷ pos 7 ∷ pos 7 ∷ []) ≡ 0)
    × (refined_point_export net32 3 2 0 1024 2048 net32 [] (pos 7 ∷ pos 7 ∷ pos 7 ∷ []) ≡ 6)
unfolding net_beyond
columns_and_rows = (refl, refl, refl, refl, refl, refl)

-- of k = 0, which needs no scratch: a point with room for two numbers and for three, and an output that is too short
refined_point_room :
    (refined_point_export zeros 2 2 0 0 0 zeros [] (pos 7 ∷ pos 7 ∷ []) ≡ 5)
    × (refined_point_export zeros 2 2 0 0 0 zeros [] (pos 7 ∷ pos 7 ∷ pos 7 ∷ []) ≡ 0)
    × (refined_point_export zeros 2 2 0 0 0 [] [] (pos 7 ∷ pos 7 ∷ pos 7 ∷ []) ≡ 5)
    × (refined_point_export (too_large (numbers 2 2 - 1)) 2 2 0 0 0 zeros [] [] ≡ 5)
    × (refined_point_export (too_large (numbers 2 2 - 1)) 2 2 0 0 0 zeros [] (pos 7 ∷ pos 7 ∷ pos 7 ∷ []) ≡ 3)
unfolding net_beyond
refined_point_room = (refl, refl, refl, refl, refl)

-- the two points of a seam, after one step and after none, with room for five numbers and for six; with columns and
-- rows exchanged; with the depths exchanged; and with the outputs exchanged
abbrev seam_of : ℕ → ℕ → ℕ → ℕ → ℕ → ℕ → ℕ → ℕ
seam_of k l p q p2 q2 room =
    seam_export net32 3 2 k l p q p2 q2 (replicate 135 (pos 7)) [] (replicate 54 (pos 8)) [] (replicate room (pos 9))

seam_points_lem :
    (seam_of 1 0 3000 600 1500 300 5 ≡ 5)
    × (seam_of 1 0 3000 600 1500 300 6 ≡ 0)
    × (seam_of 1 0 600 3000 300 1500 6 ≡ 6)
    × (seam_of 0 1 3000 600 1500 300 6 ≡ 6)
    × (seam_of 0 1 1500 300 3000 600 6 ≡ 5)
unfolding net_beyond
seam_points_lem = (refl, refl, refl, refl, refl)

-- of that net with the up triangle of cell (1, 0) alone: a place in it, with room for two numbers and for three; the
-- place with its numbers exchanged; the sides exchanged; and a place off the door
abbrev one_up : List ℕ
one_up = 0 ∷ 0 ∷ 1 ∷ 0 ∷ []

outlined_points :
    (outlined_point_export net32 3 2 one_up 1500 300 2 ≡ 5)
    × (outlined_point_export net32 3 2 one_up 1500 300 3 ≡ 0)
    × (outlined_point_export net32 3 2 one_up 300 1500 3 ≡ 6)
    × (outlined_point_export net32 2 3 one_up 1500 300 3 ≡ 6)
    × (outlined_point_export net32 3 2 one_up 700 600 3 ≡ 15)
unfolding bad_byte on_door
outlined_points = (refl, refl, refl, refl, refl)

-- after one step, with an output, a fine outline and a search of just the lengths that are needed: the same cases,
-- where the room is the point's; and one number too few of the output, of the fine outline and of the search
abbrev outlined_refined : ℕ → ℕ → ℕ → ℕ → ℕ → ℕ → ℕ → ℕ → ℕ
outlined_refined w h p q room out fine search =
    outlined_refined_export net32 w h 1 one_up p q (replicate out (pos 7)) [] (replicate fine 7) (replicate search 9)
    (replicate room (pos 8))

outlined_refined_points :
    (outlined_refined 3 2 3000 600 2 135 16 4 ≡ 5)
    × (outlined_refined 3 2 3000 600 3 135 16 4 ≡ 0)
    × (outlined_refined 3 2 600 3000 3 135 16 4 ≡ 6)
    × (outlined_refined 2 3 3000 600 3 135 16 4 ≡ 6)
    × (outlined_refined 3 2 1400 1200 3 135 16 4 ≡ 15)
    × (outlined_refined 3 2 3000 600 3 134 16 4 ≡ 5)
    × (outlined_refined 3 2 3000 600 3 135 15 4 ≡ 5)
    × (outlined_refined 3 2 3000 600 3 135 16 3 ≡ 5)
unfolding net_beyond bad_byte on_door connected reached all_reached runs
outlined_refined_points = (refl, refl, refl, refl, refl, refl, refl, refl)

write_order :
    (write_export too_few 1026 2 155 0 ≡ 1)
    × (write_export too_few 2 2 155 0 ≡ 2)
    × (write_export (too_large (numbers 2 2 - 1)) 2 2 155 1 ≡ 5)
    × (write_export (too_large (numbers 2 2 - 1)) 2 2 156 0 ≡ 5)
    × (write_export (too_large (numbers 2 2 - 1)) 2 2 156 1 ≡ 3)
    × (write_export zeros 2 2 156 1 ≡ 0)
unfolding net_beyond
write_order = (refl, refl, refl, refl, refl, refl)

-- the net of 2 by 3 whose numbers are the squares: its file, read with and without room
abbrev file23 : List ℕ
file23 = net_file (squares 54) 2 3

read_room : (read_export file23 54 1 ≡ 5) × (read_export file23 53 2 ≡ 5) × (read_export file23 54 2 ≡ 0)
unfolding word_bytes first_word point_bytes net_file runs
read_room = (refl, refl, refl)

sizes_and_counts : (read_size file23 ≡ 2 ∷ 3 ∷ []) × (written_count 2 3 ≡ 228 ∷ [])
unfolding word_bytes first_word point_bytes net_file runs
sizes_and_counts = (refl, refl)

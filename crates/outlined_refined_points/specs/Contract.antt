-- What refining with an outline and then a surface point answers and leaves, with demand 3: the one contract of the
-- calls that do both.
use Rattle.std.specs.Prelude.{◌≡◌, Bool, true, false, List, [], ◌∷◌, ℕ, ℤ, pos, replicate}
use Rattle.std.proofs.Math.Path.{refl}
use Rattle.exact.specs.Filling.{over, runs, UnchangedFrom}
use Rattle.net.specs.Net.{squares}
use Rattle.net.specs.Refusals.{net_beyond}
use Rattle.graphs.specs.Reaching.{reached, all_reached}
use Rattle.outline.specs.Connected.{connected}
use Rattle.outline.specs.Refusals.{bad_byte}
use Rattle.door.specs.Door.{on_door}
use Rattle.steps.specs.RefinedNet.{refined_net}
use Rattle.refined_points.specs.DemandThree.{Claimed}
use Rattle.fine_outline.specs.FineOutline.{fine_outline}
use Rattle.outlined_refine.specs.Answers.{OutlinedLeft}
use Rattle.outlined_refined_points.specs.Answers.{point_faults_of, outlined_refusal_at, outlined_refined_answer}

-- of a net, a size, k, an outline, a place, whether another lent output is too short, and the output, the scratch net,
-- the fine outline and the search before the call; and of the outcome of the answer and the four slices after it
pub record OutlinedPointContract (net : List ℤ) (w h k : ℕ) (outline : List ℕ) (p q : ℕ) (other : Bool) (out scratch : List ℤ) (fine search : List ℕ) (outcome : ℕ × List ℤ) (out_after scratch_after : List ℤ) (fine_after search_after : List ℕ) : Type 0 where
  pub answer : outcome ≡ outlined_refined_answer net w h k outline p q other out scratch fine search
  pub left :
      OutlinedLeft (outlined_refusal_at net w h k outline p q other out scratch fine search)
      (point_faults_of net w h k outline p q other out scratch fine search) net w h k outline out scratch fine search
      out_after scratch_after fine_after search_after
  pub demand_three : outlined_refusal_at net w h k outline p q other out scratch fine search ≡ 0 → Claimed net w h k p q outcome

-- worked cases: what the contract says of the net of 2 by 3 whose numbers are the squares, after one step, with the
-- down triangle of cell (0, 0) and the up triangle above it, at a place of the second; after 14, where the two ends of
-- the strip are present, the search alone is free; and after 5, where another output is too short, nothing is
abbrev out : List ℤ
out = replicate 135 (pos 5)

abbrev scratch : List ℤ
scratch = replicate 2 (pos 6)

abbrev fine : List ℕ
fine = replicate 17 7

abbrev search : List ℕ
search = replicate 5 8

abbrev two_of : List ℕ
two_of = 0 ∷ 1 ∷ 1 ∷ 0 ∷ []

module _ (outcome : ℕ × List ℤ) (out' scratch' : List ℤ) (fine' search' : List ℕ) where
  abbrev At : List ℕ → ℕ → ℕ → Bool → Type 0
  At outline p q other =
      OutlinedPointContract (squares 54) 2 3 1 outline p q other out scratch fine search outcome out' scratch' fine'
      search'

  accepted : At two_of 500 2500 false →
      (outcome ≡ outlined_refined_answer (squares 54) 2 3 1 two_of 500 2500 false out scratch fine search)
      × Claimed (squares 54) 2 3 1 500 2500 outcome
      × (out' ≡ over (refined_net (squares 54) 2 3 1) out)
      × UnchangedFrom 0 scratch scratch'
      × (fine' ≡ over (fine_outline two_of 2 3 1) fine)
      × UnchangedFrom 4 search search'
  unfolding net_beyond bad_byte on_door connected reached all_reached runs
  accepted c =
      (c.answer, c.demand_three refl, c.left.output, c.left.scratch_free, c.left.fine_output, c.left.search_free)

  refused :
      (At (1 ∷ 0 ∷ 0 ∷ 1 ∷ []) 500 600 false →
      (out' ≡ out) × UnchangedFrom 0 scratch scratch' × (fine' ≡ fine) × UnchangedFrom 4 search search')
      × (At two_of 500 2500 true → UnchangedFrom 0 search search')
  unfolding net_beyond bad_byte on_door connected reached all_reached runs
  refused = (
    (λ c. (c.left.output, c.left.scratch_free, c.left.fine_output, c.left.search_free)),
    (λ c. c.left.search_free),
  )

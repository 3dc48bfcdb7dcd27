-- What is stored of fields and of their mirror images, and refining: refused alike, and it leaves the mirror image.
use mathlib.Core.Path.{◌≡◌, sym, ap, subst₂, ◌∙◌}
use mathlib.Core.Bool.{Bool, false, ◌||◌, cond}
use mathlib.Core.List.{List, [], ◌++◌, append-nil}
use Prim.Native.Nat.{ℕ}
use native.Mathlib.Omega.{arith}
use lib.Dec.{ltb}
use lib.IntN.{ℤ}
use lib.ListN.{length, drop, length-append}
use lib.Seq.{drop-nil}
use borrow.Author.Tests.{le-ltb}
use Rattle.exact.specs.Filling.{over}
use Rattle.exact.specs.Rounding.{negated_if}
use Rattle.net.specs.Net.{field, numbers}
use Rattle.net.specs.Refusals.{bad_size, short_net, net_beyond, output_after}
use Rattle.net.proofs.Faults.{or_none, when_accepted}
use Rattle.net.proofs.Beyond.{cond_else}
use Rattle.outline.specs.Refusals.{short_outline, bad_byte, disconnected}
use Rattle.subdivision.specs.Refinement.{side_after, refinements}
use Rattle.steps.specs.RefinedNet.{Fields, stored, refined_net}
use Rattle.steps.proofs.StoredNets.{stored_length, stored_field}
use Rattle.refine.specs.Refusals.{too_deep, too_short}
use Rattle.refine.specs.Answers.{refusal_of}
use Rattle.outlined_refine.specs.Answers.{short_of, outlined_refusal_of}
use Rattle.details.specs.Details.{detail_numbers, stored_details}
use Rattle.details.proofs.DetailLaws.{details_length, details_field}
use Rattle.mirror.specs.Mirror.{Coordinates, Opposite, Mirrored, MirroredDetails, mirror_net}
use Rattle.mirror.specs.Promises.{MirrorImage, MirroredRefining, MirroredOutlinedRefining}
use Rattle.mirror.proofs.Fields.{steps_opposite}
use Rattle.mirror.proofs.Ranges.{net_alike}

-- ---- fields as they are stored

-- a slice that begins with a result of n numbers has n numbers, and what stands after the result does not matter
full : (result old : List ℤ) (n : ℕ) → length result ≡ n → ltb (length (over result old)) n ≡ false
unfolding over
full result old n e =
    le-ltb (length (over result old)) n (omega (arith, length-append result (drop (length result) old), e))

nothing_after : (result : List ℤ) → over result [] ≡ result
unfolding over
nothing_after result = ap (λ (l : List ℤ). result ++ l) (drop-nil (length result)) ∙ append-nil result

module _ (m : Coordinates) (F G : Fields) (w h : ℕ) (e : Opposite m w h F G) where
  pub stored_mirrored : (old old' : List ℤ) → Mirrored m w h (over (stored F w h) old) (over (stored G w h) old')
  stored_mirrored old old' =
      record {
        short = full (stored G w h) old' (numbers w h) (stored_length G w h)
            ∙ sym (full (stored F w h) old (numbers w h) (stored_length F w h));
        opposite = λ x c i j a b k.
            stored_field G w h old' i j a b k x c ∙ e x c i j a b k
            ∙ ap (negated_if (m x)) (sym (stored_field F w h old i j a b k x c));
      }

  pub bare_mirrored : Mirrored m w h (stored F w h) (stored G w h)
  bare_mirrored = subst₂ (Mirrored m w h) (nothing_after (stored F w h)) (nothing_after (stored G w h)) (stored_mirrored [] [])

  pub result_alike : net_beyond (stored G w h) w h ≡ net_beyond (stored F w h) w h
  result_alike =
      net_alike bare_mirrored (le-ltb (length (stored F w h)) (numbers w h) (omega (arith, stored_length F w h)))

  pub details_mirrored : (old old' : List ℤ) →
      MirroredDetails m w h (over (stored_details F w h) old) (over (stored_details G w h) old')
  details_mirrored old old' =
      record {
        short = full (stored_details G w h) old' (detail_numbers w h) (details_length G w h)
            ∙ sym (full (stored_details F w h) old (detail_numbers w h) (details_length F w h));
        opposite = λ x c i j a b k.
            details_field G w h old' i j a b k x c ∙ e x c i j a b k
            ∙ ap (negated_if (m x)) (sym (details_field F w h old i j a b k x c));
      }

-- what an accepted call leaves
pub left_by : (A : List ℤ → List ℤ → Type 0) (r r' : ℕ) (result result' out out' : List ℤ) → r ≡ 0 → r' ≡ 0 →
    A (over result out) (over result' out') → A (output_after r result out) (output_after r' result' out')
left_by A r r' result result' out out' z z' k =
    subst₂ A (when_accepted r (over result out) out z) (when_accepted r' (over result' out') out' z') k

-- ---- refining

module _ {m : Coordinates} {w h : ℕ} {net image : List ℤ} (e : Mirrored m w h net image) where
  steps_mirrored : (k : ℕ) → Opposite m (side_after k w) (side_after k h) (λ x. refinements k (field net w x))
      (λ x. refinements k (field image w x))
  steps_mirrored k x c i j a b l = steps_opposite k (m x) w h (field net w x) (field image w x) (e.opposite x c) i j a b l

  pub refined_mirrored : (k : ℕ) → Mirrored m (side_after k w) (side_after k h) (refined_net net w h k) (refined_net image w h k)
  unfolding refined_net
  refined_mirrored k =
      bare_mirrored m (λ x. refinements k (field net w x)) (λ x. refinements k (field image w x)) (side_after k w)
      (side_after k h) (steps_mirrored k)

  over_mirrored : (k : ℕ) (out : List ℤ) →
      Mirrored m (side_after k w) (side_after k h) (over (refined_net net w h k) out) (over (refined_net image w h k) out)
  unfolding refined_net
  over_mirrored k out =
      stored_mirrored m (λ x. refinements k (field net w x)) (λ x. refinements k (field image w x)) (side_after k w)
      (side_after k h) (steps_mirrored k) out out

-- a row, and what follows it where it is clear: a later row looks at numbers that are in range alike
pub rows_alike : {a a' x x' : Bool} (n : ℕ) → a' ≡ a → (a ≡ false → x' ≡ x) → (f : Bool → ℕ) →
    cond a' n (f x') ≡ cond a n (f x)
rows_alike {a} {a'} {x} {x'} n s d f =
    ap (λ (b : Bool). cond b n (f x')) s ∙ cond_else a n (λ clear. ap f (d clear))

-- where 2 is of the net or of its outline
pub with_outline : {m : Coordinates} {w h : ℕ} {net image : List ℤ} → Mirrored m w h net image → (outline : List ℕ)
    {x x' : Bool} → (short_net net w h ≡ false → x' ≡ x) → (f : Bool → ℕ) →
    cond (short_net image w h || short_outline outline w h) 2 (f x')
    ≡ cond (short_net net w h || short_outline outline w h) 2 (f x)
with_outline {m} {w} {h} {net} {image} e outline {x} {x'} d =
    let s = short_outline outline w h in
    rows_alike {x = x} {x' = x'} 2 (λ t. e.short t || s) (λ long. d (or_none (short_net net w h) s long).0)

pub refining_mirrored : MirroredRefining
refining_mirrored m w h net image e k out scratch =
    let short = too_short w h k (length out) (length scratch) in
    let same : refusal_of image w h k out scratch ≡ refusal_of net w h k out scratch =
    λ t. cond (bad_size w h) 1 (cond (too_deep w h k) 4 (rows_alike 2 e.short (net_alike e) (λ b. cond short 5 (cond b 3 0)) t)) in (
      same,
      λ z. left_by (Mirrored m (side_after k w) (side_after k h)) (refusal_of net w h k out scratch)
          (refusal_of image w h k out scratch) (refined_net net w h k) (refined_net image w h k) out out z (same ∙ z)
          (over_mirrored e k out),
    )

pub outlined_refining_mirrored : MirroredOutlinedRefining
outlined_refining_mirrored m w h net image e k outline out scratch fine search =
    let r = outlined_refusal_of net w h k outline out scratch fine search in
    let short = short_of w h k out scratch fine search in
    let late : Bool → ℕ =
    λ b. cond (bad_byte outline w h) 13 (cond short 5 (cond (disconnected outline w h) 14 (cond b 3 0))) in (
      (λ t. cond (bad_size w h) 1 (cond (too_deep w h k) 4 (with_outline e outline (net_alike e) late t))),
      λ z. left_by (Mirrored m (side_after k w) (side_after k h)) r r (refined_net net w h k) (refined_net image w h k) out out
          z z (over_mirrored e k out),
    )

-- ---- every net has a mirror image

pub mirror_image : MirrorImage
unfolding mirror_net
mirror_image m net w h after long =
    let F : Fields = λ x v k. negated_if (m x) (field net w x v k) in
    record {
      short = full (stored F w h) after (numbers w h) (stored_length F w h) ∙ sym long;
      opposite = λ x c i j a b k. stored_field F w h after i j a b k x c;
    }

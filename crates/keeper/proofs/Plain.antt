-- What the tests need: a text without tracked changes and comments can be kept.
use Rattle.std.proofs.Common.{◌≡◌, ℕ, ◌^◌, ◌≤◌, List, [], length, subst, sym}
use Rattle.ranges_tracker.specs.declared.change.Change.{Change}
use Rattle.ranges_tracker.specs.declared.comment.Comment.{Comment}
use Rattle.ranges_tracker.specs.Kept.{IsKept}
use Rattle.ranges_tracker.proofs.Versions.{plain_at}

pub plain_kept : (text : List ℕ) (version : ℕ) (ranges : List Change × List Comment) → ranges ≡ ([], []) → length text ≤ 2_097_152 → version ≤ 2 ^ 62 → IsKept text version ranges
plain_kept text version ranges bare long low =
    let plain = plain_at text version in
    subst (λ (r : List Change × List Comment). IsKept text version r) (sym bare) (record { agree = plain.agree; since = plain.since; long = long; bound = low })

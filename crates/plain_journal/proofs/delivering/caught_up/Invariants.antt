use Rattle.std.proofs.Common.{◌≡◌, ◌≤◌, ◌+◌, drop, map}
use Rattle.journal_rules.specs.Client.{caught_up}
use Rattle.journal_sizes.specs.Sizes.{IsAtEase}
use Rattle.plain_journal.specs.Answers.{client_as, item_as}
use Rattle.plain_journal.proofs.delivering.caught_up.Given as goal

-- what is left makes of the client what the whole makes of the first
abbrev pub invariant-loop-item : goal.invariant-loop-item
invariant-loop-item l = record {
  same : caught_up (client_as l.now) (map item_as (drop l.item-index l.items)) ≡ caught_up (client_as l.initial.now) (map item_as l.items);
  ease : IsAtEase (client_as l.now);
  low : l.now.version ≤ l.initial.now.version + l.item-index;
}

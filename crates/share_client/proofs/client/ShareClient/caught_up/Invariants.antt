use Rattle.std.proofs.Common.{◌≡◌, ◌≤◌, ◌+◌, true, drop}
use Rattle.journal_rules.specs.Client.{is_alive}
use Rattle.journal_sizes.specs.Sizes.{IsAtEase}
use Rattle.share_client.specs.Returning.{with_all}
use Rattle.share_client.proofs.client.ShareClient.caught_up.Given as goal

-- what is left makes of the client what the whole makes of the first
abbrev pub invariant-loop-missed : goal.invariant-loop-missed
invariant-loop-missed l = record {
  client_is : l.next.client ≡ l.initial.next.client;
  same : with_all l.next.now (drop l.missed-index l.past) ≡ with_all l.initial.next.now l.past;
  ease : IsAtEase l.next.now;
  low : is_alive l.next.now.state ≡ true → l.next.now.version ≤ l.initial.next.now.version + l.missed-index;
}

-- How a client joined last, and where it stands by that.
use Rattle.std.specs.Prelude.{◌≡◌, ℕ, ◌≤◌, ◌==◌, Bool, List, Option, Some, None, if◌then◌else◌, true}
use Rattle.journal_entries.specs.declared.act.Act.{Act}
use Rattle.journal_entries.specs.declared.act.Act.TheVariants.{Joined}
use Rattle.journal_entries.specs.declared.act.Entry.{Entry}
use Rattle.journal_rules.specs.Folds.{folded}
use Rattle.journal_rules.specs.Documents.{base, version}
use Rattle.journal_rules.specs.Client.{Client, is_alive}

-- a client joined a document as a user, tracked or not, under a source
pub record Joining : Type 0 where
  pub doc : ℕ
  pub user : List ℕ
  pub track : Bool
  pub source : ℕ

abbrev pub joining_by : ℕ → Act → Option Joining → Option Joining
joining_by c (Joined client doc user track since source v) now =
    if client == c then Some (record { doc = doc; user = user; track = track; source = source }) else now
joining_by c _ now = now

-- the last joining of a client, from nothing or from where it had left
unfoldable pub last_joining : ℕ → List Entry → Option Joining
last_joining c journal = folded (λ before e now. joining_by c e.act now) None journal

-- a client of this document, user, track and source is as it joined last, at a version that its document has had
pub record IsAsJoined (journal : List Entry) (c doc : ℕ) (user : List ℕ) (track : Bool) (source v : ℕ) : Type 0 where
  pub joining : Joining
  pub last : last_joining c journal ≡ Some joining
  pub doc_is : joining.doc ≡ doc
  pub user_is : joining.user ≡ user
  pub track_is : joining.track ≡ track
  pub source_is : joining.source ≡ source
  pub low : base doc journal ≤ v
  pub high : v ≤ version doc journal

-- what binds a client that is handed in over every keeper: where it is joined or left, it is as it joined last
abbrev pub IsPlaced : List Entry → ℕ → Client → Type 0
IsPlaced journal c s = is_alive s.state ≡ true → IsAsJoined journal c s.doc s.user s.track s.source s.version

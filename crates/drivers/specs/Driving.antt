-- What the driver of a run with workers knows between its turns. Its seat is 1.
use Rattle.std.specs.Prelude.{◌≡◌, ℕ, false, List, [], filter, length}
use Rattle.journal_entries.specs.declared.act.Entry.{Entry}
use Rattle.journal_rules.specs.Documents.{is_in}
use Rattle.journal_rules.specs.Legal.{IsLegal, closed}
use Rattle.session_lines.specs.declared.line.Line.{Line}
use Rattle.session_lines.specs.Script.{session_of}
use Rattle.turn_rules.specs.Owning.{IsOwned}
use Rattle.turn_rules.specs.Turns.{Among, is_by}
use Rattle.run_rules.specs.Keeping.{Preparations}
use Rattle.run_rules.specs.Lines.{Leads}
use Rattle.run_rules.specs.Threads.{is_driven_by, with_workers}
use Rattle.script_driver.specs.Clients.{AreOwnClientsOf}
use Rattle.script_driver.specs.Handing.{items_handed_by}
use Rattle.script_driver.specs.Holding.{AreHeld}
use Rattle.drivers.specs.declared.stepping.Keeping.{Keeping}

-- the driver looks at a journal, to which entries of others came since it saw it last
pub record IsLook (seen look : List Entry) : Type 0 where
  pub among : Among (is_by 1) seen look
  pub legal : IsLegal look
  pub owned : IsOwned 1 look

-- no entry is the driver's
abbrev pub StartsWith : List Entry → Type 0
StartsWith seen = Among (is_by 1) [] seen

-- the driver hadn't closed, and has made no entry since
pub record IsOpen (seen : List Entry) : Type 0 where
  pub base : List Entry
  pub since : Among (is_by 1) base seen
  pub unclosed : is_in 0 (closed base) ≡ false

-- what it keeps was so as it hadn't closed, and it has made no entry since
pub record IsKept (kept : Keeping) (seen : List Entry) : Type 0 where
  pub base : List Entry
  pub since : Among (is_by 1) base seen
  pub unclosed : is_in 0 (closed base) ≡ false
  pub held : AreHeld 1 kept.holds.items base
  pub clients : AreOwnClientsOf 1 1 kept.clients.items base
  pub many : length kept.clients.items ≡ length kept.holds.items
  pub handed : kept.handed.items ≡ items_handed_by (is_by 1) base

-- the lines that it does of these, whatever the number of workers
abbrev pub driven : List (ℕ × Line) → List (ℕ × Line)
driven lines = filter (λ x. is_driven_by (with_workers 0) 0 (session_of x.1)) lines

-- they lead from what it had seen to what it has seen
abbrev pub Drives : List (ℕ × Line) → Preparations → List Entry → List Entry → Type 0
Drives lines kept left last = Leads 1 (Among (is_by 1)) (driven lines) kept left last

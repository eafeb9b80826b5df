-- What a line leaves where it makes a document, or nothing.
use Rattle.std.proofs.Common.{◌≡◌, ℕ, List, [], ◌∷◌, ◌++◌, length, map, true, refl, sym, ap, ◌∙◌, subst, append-nil, All}
use Rattle.std.specs.Prelude.{filter, Some}
use Rattle.std.proofs.lemmas.List.Elements.{All-append, All-nil, All-cons}
use Rattle.journal_entries.specs.declared.act.Act.{Act}
use Rattle.journal_entries.specs.declared.act.Act.TheVariants.{Made}
use Rattle.journal_entries.specs.declared.act.Entry.{Entry}
use Rattle.journal_rules.specs.Documents.{makings}
use Rattle.journal_rules.specs.Legal.{closed}
use Rattle.journal_rules.proofs.Pushing.{closed-push, makings-push}
use Rattle.session_lines.specs.declared.line.Line.{Line}
use Rattle.session_lines.specs.declared.line.Line.TheVariants.{Doc}
use Rattle.session_lines.specs.Script.{makes_document}
use Rattle.run_rules.specs.Keeping.{nothing_kept}
use Rattle.run_rules.specs.Lines.{Leads}
use Rattle.turn_rules.specs.Turns.{Alone, entry_by}
use Rattle.ranges_tracker.specs.Kept.{Kept}
use Rattle.book.specs.Shown.{Shown}
use Rattle.script_driver.specs.Fitting.{makings_by}
use Rattle.script_driver.specs.Handing.{items_handed}
use Rattle.script_driver.specs.Making.{making_acts}
use Rattle.script_driver.proofs.Handing.{one_hands_none}

-- a book of so many drivers, before its first entry
abbrev pub first_book : List (List ℕ × Kept) → ℕ → ℕ → Shown
first_book documents count drivers = record { journal = []; drivers = drivers; documents = documents; faults = count; start = record { faults = count; documents = documents } }

-- lines of which those that make documents lead so
abbrev pub Makes : List (ℕ × Line) → List Entry → List Entry → Type 0
Makes ls left last = Leads 0 Alone (filter (λ (x : ℕ × Line). makes_document x.1) ls) nothing_kept left last

module _ (k : ℕ) (j : List Entry) where
  abbrev by : Act → Entry
  by = entry_by 0 (Some k)

  abbrev pub left_by : Line → List Entry
  left_by line = j ++ map by (making_acts (length (makings j)) line)

  abbrev its : List ℕ → List ℕ → List ℕ → ℕ → Entry
  its name project text v = by (Made (length (makings j)) name project text v)

  pub makes_on : (line : Line) (ls : List (ℕ × Line)) (last : List Entry) → Makes ls (left_by line) last → Makes ((k, line) ∷ ls) j last
  makes_on (Doc name project text v) ls last rest = (j ++ its name project text v ∷ [], nothing_kept, ((j, its name project text v ∷ [], refl, refl, refl), refl), rest)
  makes_on _ ls last rest = subst (λ (l : List Entry). Makes ls l last) (append-nil j) rest

  pub makings_on : (line : Line) → makings (left_by line) ≡ makings_by (makings j) line
  makings_on (Doc name project text v) = makings-push j (its name project text v)
  makings_on _ = ap makings (append-nil j)

  pub still_closed : (line : Line) → closed (left_by line) ≡ closed j
  still_closed (Doc name project text v) = closed-push j (its name project text v) ∙ append-nil (closed j)
  still_closed _ = ap closed (append-nil j)

  pub still_handed : (line : Line) → items_handed (left_by line) ≡ items_handed j
  still_handed (Doc name project text v) = one_hands_none (λ e. true) j (its name project text v) refl
  still_handed _ = ap items_handed (append-nil j)

  abbrev Is0 : Entry → Type 0
  Is0 e = e.seat ≡ 0

  pub seats_on : (line : Line) → All Is0 j → All Is0 (left_by line)
  seats_on (Doc name project text v) all = All-append Is0 j (its name project text v ∷ []) all (All-cons Is0 (its name project text v) [] refl (All-nil Is0))
  seats_on _ all = subst (All Is0) (sym (append-nil j)) all

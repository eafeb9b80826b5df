-- What a flush of every document that needs it leaves, by how it ended.
use Rattle.std.specs.Prelude.{◌≡◌, ◌≢◌, ◌⊎◌, ℕ, zero, suc, List, length, Some}
use Rattle.journal_entries.specs.declared.act.Act.{Act}
use Rattle.journal_entries.specs.declared.act.Entry.{Entry}
use Rattle.journal_rules.specs.Documents.{IsMade, makings, version}
use Rattle.journal_rules.specs.Keeping.{kept}
use Rattle.flush_manager.specs.Flushes.{Flushes}
use Rattle.flush_manager.specs.declared.flush.FlushEnd.{FlushEnd}
use Rattle.flush_manager.specs.declared.flush.FlushEnd.TheVariants.{Done, Failed, Memory, Refused}

-- a document whose version is kept stays as it is, and any other is flushed
abbrev pub FlushesIfNeeded : (Act → Entry) → ℕ → List Entry → List Entry → FlushEnd → Type 0
FlushesIfNeeded by doc old new end =
    ((kept doc old ≡ Some (version doc old)) × (new ≡ old) × (end ≡ Done)) ⊎ ((kept doc old ≢ Some (version doc old)) × Flushes by doc old new end)

-- of two ends, the first that isn't done
abbrev pub first_of : FlushEnd → FlushEnd → FlushEnd
first_of Done next = next
first_of end next = end

-- the documents below a number are flushed in order, each where it needs it, and memory was never wanting
abbrev pub FlushesBelow : (Act → Entry) → ℕ → List Entry → List Entry → FlushEnd → Type 0
FlushesBelow by zero old new end = (new ≡ old) × (end ≡ Done)
FlushesBelow by (suc doc) old new end =
    (mid : List Entry) × (before : FlushEnd) × (next : FlushEnd) × FlushesBelow by doc old mid before × FlushesIfNeeded by doc mid new next × (next ≢ Memory) × (end ≡ first_of before next)

-- all documents, by its end; where memory was wanting for one, those behind it weren't tried
abbrev pub FlushesAll : (Act → Entry) → List Entry → List Entry → FlushEnd → Type 0
FlushesAll by old new Memory =
    (doc : ℕ) × (mid : List Entry) × (before : FlushEnd) × IsMade doc old × FlushesBelow by doc old mid before × FlushesIfNeeded by doc mid new Memory
FlushesAll by old new end = FlushesBelow by (length (makings old)) old new end

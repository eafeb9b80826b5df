use Rattle.std.proofs.Common.{rules, ◌≡◌, ◌∙◌, ◌≤◌, List, All, length, refl, sym, ap, ap₂, subst, arith, [], ◌∷◌, ◌++◌, append-nil}
use Rattle.std.specs.Prelude.{slice_get, Some, None, Err, IsTrue}
use Rattle.source_sink.specs.Causes.{Rose}
use Rattle.keeper.specs.declared.keeper.KeepFault.TheVariants.{Failed}
use Rattle.journal_rules.specs.Keeping.{faults}
use Rattle.book.specs.Stored.{kept_document}
use Rattle.std.specs.Option.{option_copied}
use Rattle.journal_entries.specs.Journals.{entries}
use Rattle.journal_entries.specs.declared.act.Act.TheVariants.{Flushed, FlushFailed}
use Rattle.journal_entries.specs.declared.act.Entry.{Entry}
use Rattle.journal_rules.specs.Documents.{name}
use Rattle.turn_rules.specs.Turns.{entry_by}
use Rattle.keeper.specs.Documents.{Sets}
use Rattle.book.specs.Flushing.{IsPreparedFor}
use Rattle.book.specs.Shown.{Shown}
use Rattle.book.proofs.Booking.{quiet_by, same_book}
use Rattle.project_histories.proofs.Lists.{at_within}
use Rattle.book.proofs.Locking.{told_by, told_unmade}
use Rattle.std.proofs.lemmas.List.{length-map}
use Rattle.journal_rules.specs.Documents.{Making, makings}
use Rattle.book.proofs.Putting.{err_of, faults_rose, flushed_book, holds, made_still, name_there, put_is, version_is}
use Rattle.book.proofs.Roomed.{roomed_quiet_by, roomed_same}
use Rattle.project_histories.proofs.Histories.{histories_by, histories_same}
use Rattle.book.proofs.Stored.{keeps_asked, keeps_failed, keeps_put, keeps_same}
use Rattle.turn_rules.proofs.Owning.{own_other, owned_by, owned_same}
use Rattle.book.proofs.book.Book.flush.Goals as goal

pub returns-then-at-len-clause-refused : goal.returns-then-at-len-clause-refused
returns-then-at-len-clause-refused g c =
    let s = c.self.inside in
    let len = c.len.ensures in
    let high = c.if-at-len.true in
    rw (← c.self.view_is) (told_unmade s.journal s.documents.items s.moment s.tokens s.owed s.drivers c.args.prepared.doc c.args.prepared.token c.self.invariant.book (Some c.never_given.result) (omega (arith, len, high)) c.never_given.ensures, refl)

pub returns-in-Some-clause-refused : goal.returns-in-Some-clause-refused
returns-in-Some-clause-refused g c =
    let s = c.self.inside in
    let len = c.len.ensures in
    let low = c.if-at-len.false in
    rw (← c.self.view_is) (told_by s.journal s.documents.items s.moment s.tokens s.owed s.drivers c.args.prepared.doc c.args.prepared.token c.self.invariant.book (Some c.in-Some.stale) (omega (arith, len, low)) (λ d at. c.check.ensures d at ∙ c.in-Some.is), refl)

pub returns-in_default-make_room-clause-refused : goal.returns-in_default-make_room-clause-refused
returns-in_default-make_room-clause-refused g c =
    let s = c.self.inside in
    let len = c.len.ensures in
    let low = c.if-at-len.false in
    let none = told_by s.journal s.documents.items s.moment s.tokens s.owed s.drivers c.args.prepared.doc c.args.prepared.token c.self.invariant.book None (omega (arith, len, low)) (λ d at. c.check.ensures d at ∙ c.in_default.is) in
    rw (← c.self.view_is) (none, record { journal_is = c.make_room.ensures.entries ∙ sym (append-nil (entries s.journal)); drivers_are = refl; start_is = refl; later = omega arith })

pub unreachable-requires : goal.unreachable-requires
unreachable-requires g c =
    let s = c.self.inside in
    let len = c.len.ensures in
    let low = c.if-at-len.false in
    let count = c.self.invariant.book.stands.count in
    let long = ap length c.self.invariant.book.names_are ∙ length-map (makings (entries s.journal)) (λ (m : Making). m.name) in
    let x = at_within s.documents.names c.args.prepared.doc (omega (arith, len, low, count, long)) in
    let f : None ≡ Some x.0 = sym (ap option_copied c.in_default-name.is) ∙ c.name.ensures ∙ x.1 in
    absurd (cc)

pub invariant_of-self-in-Err-Memory : goal.invariant_of-self-in-Err-Memory
invariant_of-self-in-Err-Memory g c =
    let s = c.self.inside in
    record {
      book = same_book s.journal c.make_room.new.journal s.documents.items s.documents.items s.moment s.tokens s.owed s.drivers c.self.invariant.book refl c.make_room.ensures.entries c.make_room.ensures.kept c.self.invariant.book.stands refl;
      roomed = roomed_same s.rooms (entries s.journal) (entries c.make_room.new.journal) c.make_room.ensures.entries c.self.invariant.roomed;
      keeps = keeps_same (entries s.journal) (entries c.make_room.new.journal) c.make_room.ensures.entries (keeps_asked (entries s.journal) c.self.invariant.keeps (λ told. err_of _ _ c.in-Err-Memory.is (c.put-put.ensures.err told)) c.put-put.ensures.cause.later);
      histories = histories_same s.projects (entries s.journal) (entries c.make_room.new.journal) c.make_room.ensures.entries c.self.invariant.histories;
      owned = owned_same (entries s.journal) (entries c.make_room.new.journal) c.make_room.ensures.entries c.self.invariant.owned;
    }

pub invariant_of-self-in-Ok-put : goal.invariant_of-self-in-Ok-put
invariant_of-self-in-Ok-put g c =
    let s = c.self.inside in
    let j = entries s.journal in
    let p = c.args.prepared in
    let len = c.len.ensures in
    let low = c.if-at-len.false in
    let none = told_by s.journal s.documents.items s.moment s.tokens s.owed s.drivers p.doc p.token c.self.invariant.book None (omega (arith, len, low)) (λ d at. c.check.ensures d at ∙ c.in_default.is) in
    let legal = c.self.invariant.book.stands.legal in
    let of = subst (λ (v : Shown). IsPreparedFor v.journal c.args.by.seat p) (sym c.self.view_is) c.requires in
    let named : c.in-Some-name.name.now ≡ name p.doc j = name_there (makings j) p.doc c.in-Some-name.name.now (ap (λ l. slice_get l p.doc) (sym c.self.invariant.book.names_are) ∙ sym c.name.ensures ∙ ap option_copied c.in-Some-name.is) in
    let put : IsTrue g.K.Keeper.tells → Sets (name p.doc j) p.kept (g.K.Keeper.documents s.keeper) (g.K.Keeper.documents c.put-put.new.self) = λ told. subst (λ n. Sets n p.kept (g.K.Keeper.documents s.keeper) (g.K.Keeper.documents c.put-put.new.self)) (c.as_str.ensures.value ∙ named) (c.in-Ok-put.ensures.ok told) in
    let e = c.entry_of.result in
    let v = c.version-v.ensures in
    let at = v ∙ version_is p c.args.by.seat j legal of none in
    let act = ap (λ (x : Entry). x.act) c.entry_of.ensures in
    record {
      book = flushed_book s.journal c.make_room.new.journal c.push.new.self s.documents.items c.keep.new.self.items s.moment s.tokens s.owed s.drivers c.in-Ok._sum p.doc p.token c.version-v.result c.args.by.seat e
          c.self.invariant.book c.keep.ensures.names c.make_room.ensures.entries c.in-Ok.ensures.room c.push.ensures.entries c.push.ensures.spare (ap (λ (x : Entry). x.seat) c.entry_of.ensures) act (holds p c.args.by.seat j legal of none) at c.keep.ensures.kept;
      roomed = roomed_quiet_by s.rooms j (entries c.make_room.new.journal) (entries c.push.new.self) c.args.by.seat c.args.by.line (Flushed p.doc p.token c.version-v.result) e c.entry_of.ensures c.make_room.ensures.entries c.push.ensures.entries legal tt refl (λ d. refl) c.self.invariant.roomed;
      keeps = keeps_same (j ++ e ∷ []) (entries c.push.new.self) (c.push.ensures.entries ∙ ap (λ l. l ++ e ∷ []) c.make_room.ensures.entries)
          (keeps_put j c.self.invariant.keeps e p.doc p.token c.version-v.result p.kept act legal (made_still p c.args.by.seat j legal of none) at (put_is p c.args.by.seat j legal of none ∙ ap (λ n. kept_document p.doc n j) (sym v)) put c.put-put.ensures.cause.later);
      histories = histories_by s.projects j (entries c.make_room.new.journal) (entries c.push.new.self) c.args.by.seat c.args.by.line (Flushed p.doc p.token c.version-v.result) e c.entry_of.ensures c.make_room.ensures.entries c.push.ensures.entries legal refl (λ n. refl) (λ n. refl) c.self.invariant.histories;
      owned = owned_by j (entries c.make_room.new.journal) (entries c.push.new.self) c.args.by.seat c.args.by.line (Flushed p.doc p.token c.version-v.result) e c.entry_of.ensures c.make_room.ensures.entries c.push.ensures.entries (own_other j c.args.by.seat (Flushed p.doc p.token c.version-v.result) refl refl) c.self.invariant.owned;
    }

pub invariant_of-self-in-Err-Failed : goal.invariant_of-self-in-Err-Failed
invariant_of-self-in-Err-Failed g c =
    let s = c.self.inside in
    let j = entries s.journal in
    let p = c.args.prepared in
    let len = c.len.ensures in
    let low = c.if-at-len.false in
    let none = told_by s.journal s.documents.items s.moment s.tokens s.owed s.drivers p.doc p.token c.self.invariant.book None (omega (arith, len, low)) (λ d at. c.check.ensures d at ∙ c.in_default.is) in
    let legal = c.self.invariant.book.stands.legal in
    let of = subst (λ (v : Shown). IsPreparedFor v.journal c.args.by.seat p) (sym c.self.view_is) c.requires in
    let asked : c.put-put.result ≡ Err Failed = search (rules, c.in-Err-Failed.is, c.in-Err-Failed.field-0-is) in
    let rise = c.put-put.ensures.cause.failed asked in
    let later = c.put-put.ensures.cause.later in
    let before = c.faults-before.ensures in
    let after = c.faults-after.ensures in
    let rose : Rose c.faults-before.result c.faults-after.result = subst (λ n. Rose n c.faults-after.result) (sym before) (subst (λ n. Rose (g.K.Keeper.count s.keeper) n) (sym after) rise) in
    let e = c.entry_of-in-Err-Failed.result in
    let high = c.faults-after.type_inv in
    let act = ap (λ (x : Entry). x.act) c.entry_of-in-Err-Failed.ensures in
    let onward = subst (λ n. All (λ end. end ≤ n) (faults j)) (sym before) c.self.invariant.keeps.ended in
    let fails = faults_rose c.faults-before.result c.faults-after.result j rose (omega (arith, before, after, later)) (omega (arith, high)) onward in
    let start = c.self.invariant.keeps.later in
    record {
      book = quiet_by s.journal c.make_room.new.journal c.push-in-Err-Failed.new.self s.documents.items s.moment s.moment s.tokens s.owed s.drivers c.in-Ok._sum c.args.by.seat c.args.by.line (FlushFailed p.doc p.token c.faults-before.result c.faults-after.result) e c.entry_of-in-Err-Failed.ensures
          c.self.invariant.book c.make_room.ensures.entries c.in-Ok.ensures.room c.push-in-Err-Failed.ensures.entries c.push-in-Err-Failed.ensures.spare (record { holds = holds p c.args.by.seat j legal of none; fails = fails }) tt refl refl c.self.invariant.book.now_low;
      roomed = roomed_quiet_by s.rooms j (entries c.make_room.new.journal) (entries c.push-in-Err-Failed.new.self) c.args.by.seat c.args.by.line (FlushFailed p.doc p.token c.faults-before.result c.faults-after.result) e c.entry_of-in-Err-Failed.ensures c.make_room.ensures.entries c.push-in-Err-Failed.ensures.entries legal tt refl (λ d. refl) c.self.invariant.roomed;
      keeps = keeps_same (j ++ e ∷ []) (entries c.push-in-Err-Failed.new.self) (c.push-in-Err-Failed.ensures.entries ∙ ap (λ l. l ++ e ∷ []) c.make_room.ensures.entries)
          (keeps_failed j c.self.invariant.keeps e p.doc p.token c.faults-before.result c.faults-after.result act (λ told. err_of _ _ c.in-Err-Failed.is (c.put-put.ensures.err told)) later (omega (arith, start, before)) (omega (arith, after)));
      histories = histories_by s.projects j (entries c.make_room.new.journal) (entries c.push-in-Err-Failed.new.self) c.args.by.seat c.args.by.line (FlushFailed p.doc p.token c.faults-before.result c.faults-after.result) e c.entry_of-in-Err-Failed.ensures c.make_room.ensures.entries c.push-in-Err-Failed.ensures.entries legal refl (λ n. refl) (λ n. refl) c.self.invariant.histories;
      owned = owned_by j (entries c.make_room.new.journal) (entries c.push-in-Err-Failed.new.self) c.args.by.seat c.args.by.line (FlushFailed p.doc p.token c.faults-before.result c.faults-after.result) e c.entry_of-in-Err-Failed.ensures c.make_room.ensures.entries c.push-in-Err-Failed.ensures.entries (own_other j c.args.by.seat (FlushFailed p.doc p.token c.faults-before.result c.faults-after.result) refl refl) c.self.invariant.owned;
    }

pub returns-in-Ok-put-clause-ok : goal.returns-in-Ok-put-clause-ok
returns-in-Ok-put-clause-ok g c =
    let s = c.self.inside in
    let j = entries s.journal in
    let p = c.args.prepared in
    let len = c.len.ensures in
    let low = c.if-at-len.false in
    let none = told_by s.journal s.documents.items s.moment s.tokens s.owed s.drivers p.doc p.token c.self.invariant.book None (omega (arith, len, low)) (λ d at. c.check.ensures d at ∙ c.in_default.is) in
    let e = c.entry_of.ensures ∙ ap (λ n. entry_by c.args.by.seat c.args.by.line (Flushed p.doc p.token n)) c.version-v.ensures in
    rw (← c.self.view_is) (none, record { journal_is = c.push.ensures.entries ∙ ap₂ (λ (l : List Entry) (x : Entry). l ++ x ∷ []) c.make_room.ensures.entries e; drivers_are = refl; start_is = refl; later = c.put-put.ensures.cause.later })

pub returns-in-Ok-put-clause-put : goal.returns-in-Ok-put-clause-put
returns-in-Ok-put-clause-put g c =
    let s = c.self.inside in
    let j = entries s.journal in
    let p = c.args.prepared in
    let named : c.in-Some-name.name.now ≡ name p.doc j = name_there (makings j) p.doc c.in-Some-name.name.now (ap (λ l. slice_get l p.doc) (sym c.self.invariant.book.names_are) ∙ sym c.name.ensures ∙ ap option_copied c.in-Some-name.is) in
    let put : IsTrue g.K.Keeper.tells → Sets (name p.doc j) p.kept (g.K.Keeper.documents s.keeper) (g.K.Keeper.documents c.put-put.new.self) = λ told. subst (λ n. Sets n p.kept (g.K.Keeper.documents s.keeper) (g.K.Keeper.documents c.put-put.new.self)) (c.as_str.ensures.value ∙ named) (c.in-Ok-put.ensures.ok told) in
    rw (← c.self.view_is) put

pub returns-in-Err-Memory-clause-refused : goal.returns-in-Err-Memory-clause-refused
returns-in-Err-Memory-clause-refused g c =
    let s = c.self.inside in
    let j = entries s.journal in
    let p = c.args.prepared in
    let len = c.len.ensures in
    let low = c.if-at-len.false in
    let none = told_by s.journal s.documents.items s.moment s.tokens s.owed s.drivers p.doc p.token c.self.invariant.book None (omega (arith, len, low)) (λ d at. c.check.ensures d at ∙ c.in_default.is) in
    rw (← c.self.view_is) (none, record { journal_is = c.make_room.ensures.entries ∙ sym (append-nil j); drivers_are = refl; start_is = refl; later = c.put-put.ensures.cause.later })

pub returns-in-Err-Failed-clause-refused : goal.returns-in-Err-Failed-clause-refused
returns-in-Err-Failed-clause-refused g c =
    let s = c.self.inside in
    let j = entries s.journal in
    let p = c.args.prepared in
    let len = c.len.ensures in
    let low = c.if-at-len.false in
    let none = told_by s.journal s.documents.items s.moment s.tokens s.owed s.drivers p.doc p.token c.self.invariant.book None (omega (arith, len, low)) (λ d at. c.check.ensures d at ∙ c.in_default.is) in
    let asked : c.put-put.result ≡ Err Failed = search (rules, c.in-Err-Failed.is, c.in-Err-Failed.field-0-is) in
    let rise = c.put-put.ensures.cause.failed asked in
    let later = c.put-put.ensures.cause.later in
    let before = c.faults-before.ensures in
    let after = c.faults-after.ensures in
    let rose : Rose c.faults-before.result c.faults-after.result = subst (λ n. Rose n c.faults-after.result) (sym before) (subst (λ n. Rose (g.K.Keeper.count s.keeper) n) (sym after) rise) in
    rw (← c.self.view_is) (none, before, after, rose, record { journal_is = c.push-in-Err-Failed.ensures.entries ∙ ap₂ (λ (l : List Entry) (x : Entry). l ++ x ∷ []) c.make_room.ensures.entries c.entry_of-in-Err-Failed.ensures; drivers_are = refl; start_is = refl; later = later })

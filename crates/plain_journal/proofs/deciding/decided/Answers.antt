use Rattle.std.proofs.Common.{◌≡◌, ◌-◌, ℕ, List, Option, ap, ap₂, sym, ◌∙◌, subst, arith}
use Rattle.std.specs.Prelude.{IfOk}
use Rattle.ot_op.specs.declared.comp.Comp.{Comp}
use Rattle.ot_transform.specs.Room.{FitsAll}
use Rattle.journal_entries.specs.declared.update.Outcome.{Outcome}
use Rattle.journal_rules.specs.Documents.{base, version}
use Rattle.journal_rules.specs.Deciding.{Twin, Stuck, Moved, scanned, concluded, decided}
use Rattle.plain_journal.specs.declared.documents.Item.{Item}
use Rattle.plain_journal.specs.Answers.{scan_as}
use Rattle.plain_journal.proofs.Scanning.{passed_is, operations_are, decided_is}
use Rattle.plain_journal.proofs.deciding.decided.Goals as goal

pub scan-requires : goal.scan-requires
scan-requires c =
    let j = c.args.journal.now in
    let d = c.args.doc in
    let u = c.args.update.now in
    let xs : List Item = c.in_ok-items.items.items in
    let first : c.in_ok-first.first ≡ base d j = c.in_ok-first.ensures in
    let have : c.in_ok-have.have ≡ version d j = c.in_ok-have.ensures in
    let at : u.v - c.in_ok-first.first ≡ u.v - base d j = ap (λ n. u.v - n) first in
    subst (λ (ops : List (List Comp)). FitsAll u.op ops) (sym (operations_are j d u.v (u.v - c.in_ok-first.first) c.deref.result.now xs c.deref.ensures.value c.in_ok-items.ensures at))
    (c.requires.room (omega (arith, first)) (omega (arith, have)) (omega (arith, have)))

pub returns-in-Twin : goal.returns-in-Twin
returns-in-Twin c =
    let j = c.args.journal.now in
    let d = c.args.doc in
    let u = c.args.update.now in
    let xs : List Item = c.in_ok-items.items.items in
    let first : c.in_ok-first.first ≡ base d j = c.in_ok-first.ensures in
    let have : c.in_ok-have.have ≡ version d j = c.in_ok-have.ensures in
    let at : u.v - c.in_ok-first.first ≡ u.v - base d j = ap (λ n. u.v - n) first in
    let scan_is = ap scan_as (sym c.in-Twin.is) ∙ c.in_ok-v.ensures ∙ ap (scanned u.dup u.op) (passed_is j d u.v (u.v - c.in_ok-first.first) c.deref.result.now xs c.deref.ensures.value c.in_ok-items.ensures at) in
    decided_is j d u (Twin c.in-Twin.v) (omega (arith, first)) (omega (arith, have)) (omega (arith, have)) scan_is

pub returns-in-Stuck : goal.returns-in-Stuck
returns-in-Stuck c =
    let j = c.args.journal.now in
    let d = c.args.doc in
    let u = c.args.update.now in
    let xs : List Item = c.in_ok-items.items.items in
    let first : c.in_ok-first.first ≡ base d j = c.in_ok-first.ensures in
    let have : c.in_ok-have.have ≡ version d j = c.in_ok-have.ensures in
    let at : u.v - c.in_ok-first.first ≡ u.v - base d j = ap (λ n. u.v - n) first in
    let scan_is = ap scan_as (sym c.in-Stuck.is) ∙ c.in_ok-v.ensures ∙ ap (scanned u.dup u.op) (passed_is j d u.v (u.v - c.in_ok-first.first) c.deref.result.now xs c.deref.ensures.value c.in_ok-items.ensures at) in
    decided_is j d u Stuck (omega (arith, first)) (omega (arith, have)) (omega (arith, have)) scan_is

pub returns : goal.returns
returns c =
    let j = c.args.journal.now in
    let d = c.args.doc in
    let u = c.args.update.now in
    let xs : List Item = c.in_ok-items.items.items in
    let first : c.in_ok-first.first ≡ base d j = c.in_ok-first.ensures in
    let have : c.in_ok-have.have ≡ version d j = c.in_ok-have.ensures in
    let at : u.v - c.in_ok-first.first ≡ u.v - base d j = ap (λ n. u.v - n) first in
    let scan_is = ap scan_as (sym c.in-Moved.is) ∙ c.in_ok-v.ensures ∙ ap (scanned u.dup u.op) (passed_is j d u.v (u.v - c.in_ok-first.first) c.deref.result.now xs c.deref.ensures.value c.in_ok-items.ensures at) in
    let same = ap₂ (λ v (t : Option (List ℕ)). concluded v t (Moved c.in-Moved.op)) have c.in_ok-text-in-Moved.ensures in
    let is : concluded c.in_ok-have.have c.in_ok-text-in-Moved.field-0 (Moved c.in-Moved.op) ≡ decided j d u = same ∙ decided_is j d u (Moved c.in-Moved.op) (omega (arith, first)) (omega (arith, have)) (omega (arith, have)) scan_is in
    subst (λ (o : Outcome). IfOk c.fitted-in-Moved.result (λ outcome. outcome ≡ o)) is c.fitted-in-Moved.ensures

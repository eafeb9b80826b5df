-- Getting mail, one message after the other.
use Rattle.std.proofs.Common.{◌≡◌, ℕ, zero, suc, ◌<◌, List, [], ◌∷◌, ◌++◌, length, true, false, true≢false, refl, sym, ap, ap₂, ◌∙◌, subst, arith, eq-eqb}
use Rattle.std.specs.Prelude.{slice_get, Option, Some, None, IfSome, is_some}
use Rattle.journal_entries.specs.declared.message.Msg.{Msg}
use Rattle.journal_entries.specs.declared.act.Act.TheVariants.{Got}
use Rattle.journal_entries.specs.declared.act.Entry.{Entry}
use Rattle.journal_rules.specs.Legal.{brief_of}
use Rattle.journal_rules.specs.Mail.{mail}
use Rattle.ending_rules.proofs.Refusals.{got_mail}
use Rattle.turn_rules.specs.Turns.{Alone, entry_by}
use Rattle.run_rules.specs.Lines.{Gets}
use Rattle.book.specs.Going.{with_journal}
use Rattle.book.specs.Shown.{Shown, adds}
use Rattle.share_client.specs.Clients.{Numbered}
use Rattle.script_driver.specs.Clients.{GoesQuietly}
use Rattle.script_driver.specs.Failing.{GoesByOwn}
use Rattle.script_driver.proofs.Failing.{added_own}
use Rattle.client_lines.proofs.Declining.{got_none}
use Rattle.journal_rules.proofs.Lists.{some_same}
use Rattle.script_driver.proofs.Quiet.{quiet_one}

-- ---- the first of a list
first_is : (ms : List Msg) (m : Msg) → Some m ≡ slice_get ms 0 → (rest : List Msg) × (ms ≡ m ∷ rest)
first_is [] m is = absurd (cc)
first_is (x ∷ xs) m is = (xs, ap (λ n. n ∷ xs) (sym (some_same m x is)))

-- ---- one message more
there : (o : Option Msg) → is_some o ≡ true → (m : Msg) × (o ≡ Some m)
there (Some m) some = (m, refl)
there None some = absurd (true≢false (sym some))

some_of : (P : Msg → Type 0) (o : Option Msg) (m : Msg) → o ≡ Some m → IfSome o P → P m
some_of P o m is held = subst (λ (p : Option Msg). IfSome p P) is held

module _ (seat : ℕ) (line : Option ℕ) (was now : Numbered) (left last : Shown) (o : Option Msg) (same : now.client ≡ was.client) (some : is_some o ≡ true) (first : o ≡ slice_get (mail now.client left.journal) 0)
    (got : IfSome o (λ msg. last ≡ adds left seat line (Got now.client (brief_of msg) ∷ []))) where
  abbrev m : Msg
  m = (there o some).0

  is : o ≡ Some m
  is = (there o some).1

  abbrev its : Entry
  its = entry_by seat line (Got was.client (brief_of m))

  first_one : (rest : List Msg) × (mail was.client left.journal ≡ m ∷ rest)
  first_one = first_is (mail was.client left.journal) m (sym is ∙ first ∙ ap (λ n. slice_get (mail n left.journal) 0) same)

  one_more : last.journal ≡ left.journal ++ its ∷ []
  one_more =
      ap (λ (b : Shown). b.journal) (some_of (λ msg. last ≡ adds left seat line (Got now.client (brief_of msg) ∷ [])) o m is got)
      ∙ ap (λ (n : ℕ). left.journal ++ entry_by seat line (Got n (brief_of m)) ∷ []) same

  pub less_mail : length (mail was.client last.journal) < length (mail was.client left.journal)
  less_mail =
      let rest = ap (λ (l : List Entry). length (mail was.client l)) one_more ∙ ap length (got_mail was.client left.journal its (brief_of m) m first_one.0 refl first_one.1) in
      let all = ap length first_one.1 in
      omega (arith, rest, all)

  pub gets_first : (end : List Entry) → Gets (entry_by seat line) Alone was.client last.journal end → Gets (entry_by seat line) Alone was.client left.journal end
  gets_first end rest = (suc rest.0, (last.journal, (left.journal, its ∷ [], refl, (m, first_one.0, first_one.1, refl), one_more), rest.1))

  pub gets_quietly : GoesQuietly was.client left.journal last.journal
  gets_quietly = quiet_one was.client left.journal last.journal its one_more (record { quiet = refl; its = eq-eqb was.client was.client refl })

  pub gets_rest : last ≡ with_journal left last.journal
  gets_rest = let one = some_of (λ msg. last ≡ adds left seat line (Got now.client (brief_of msg) ∷ [])) o m is got in one ∙ ap (λ (b : Shown). with_journal left b.journal) (sym one)

  pub gets_own : GoesByOwn seat left last
  gets_own = added_own seat left last line (Got now.client (brief_of m)) refl (some_of (λ msg. last ≡ adds left seat line (Got now.client (brief_of msg) ∷ [])) o m is got)

-- and none more
pub gets_none : (seat : ℕ) (line : Option ℕ) (c : ℕ) (j k : List Entry) (o : Option Msg) → is_some o ≡ false → o ≡ slice_get (mail c j) 0 → k ≡ j → Gets (entry_by seat line) Alone c j k
gets_none seat line c j k None none first same = (zero, (same, ap (mail c) same ∙ got_none (mail c j) first))
gets_none seat line c j k (Some m) none first same = absurd (true≢false none)

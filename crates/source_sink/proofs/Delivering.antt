-- How what a buffer has passed on goes from push to push, and what stands at the end.
use Rattle.std.proofs.Common.{◌≡◌, ℕ, List, [], ◌++◌, length, take, drop, refl, sym, ◌∙◌, ap, append_assoc, take_all, length-append, OnOk, OnErr, Ok, Err, arith, rules}
use Rattle.std.proofs.lemmas.List.{append-nil, take-append-drop}
use Rattle.std.proofs.Math.Seq.{take-append_seam}
use Rattle.std.specs.declared.option.Option.{Option}
use Rattle.std.specs.declared.result.Result.{Result}
use Rattle.std.specs.Io.KnownBytes.{Appends}
use Rattle.std.proofs.KnownBytes.{Appends-nil, Appends-trans}
use Rattle.source_sink.specs.Buffered.{Delivered, DeliveredPrefix}
use Rattle.source_sink.specs.Outside.{Wrote}

-- nothing was pushed yet
pub Delivered-nil : (start : Option (List ℕ)) → Delivered start start [] []
Delivered-nil start = record { given = []; appended = Appends-nil start; all = refl }

-- the front of what was held was written
pub Delivered-moved : (start old now : Option (List ℕ)) (held text : List ℕ) (count : ℕ) → Appends old now (take count held) → Delivered start old held text → Delivered start now (drop count held) text
Delivered-moved start old now held text count moved before = record {
  given = before.given ++ take count held;
  appended = Appends-trans start old now before.given (take count held) before.appended moved;
  all = append_assoc before.given (take count held) (drop count held) ∙ (ap (λ rest. before.given ++ rest) (take-append-drop count held) ∙ before.all);
}

-- more was put behind what is held
pub Delivered-held : (start now : Option (List ℕ)) (held text bytes : List ℕ) → Delivered start now held text → Delivered start now (held ++ bytes) (text ++ bytes)
Delivered-held start now held text bytes before = record {
  given = before.given;
  appended = before.appended;
  all = sym (append_assoc before.given held bytes) ∙ ap (λ front. front ++ bytes) before.all;
}

-- nothing was held, and more was written at once
pub Delivered-written : (start mid now : Option (List ℕ)) (text bytes : List ℕ) → Appends mid now bytes → Delivered start mid [] text → Delivered start now [] (text ++ bytes)
Delivered-written start mid now text bytes written before = record {
  given = before.given ++ bytes;
  appended = Appends-trans start mid now before.given bytes before.appended written;
  all = append-nil (before.given ++ bytes) ∙ ap (λ front. front ++ bytes) (sym (append-nil before.given) ∙ before.all);
}

-- the same, said of the outcome of that write
pub OnOk-written : {T E : Type 0} (start mid now : Option (List ℕ)) (held text bytes : List ℕ) (result : Result T E) → held ≡ [] → Wrote mid now bytes result → Delivered start mid held text → OnOk result (Delivered start now held (text ++ bytes))
OnOk-written start mid now held text bytes (Ok value) none wrote before =
    let whole : take wrote.count bytes ≡ bytes = take_all wrote.count bytes (omega (arith, wrote.whole (search rules))) in
    rw none (Delivered-written start mid now text bytes (rw whole at wrote.written) (rw none at before))
OnOk-written start mid now held text bytes (Err error) none wrote before = tt

-- what is pushed beyond is lost
pub DeliveredPrefix-lost : (start now : Option (List ℕ)) (held text bytes : List ℕ) → Delivered start now held text → DeliveredPrefix start now held (text ++ bytes)
DeliveredPrefix-lost start now held text bytes before = record { prefix = text; lost = bytes; parts = refl; delivered = before }

-- nothing was held, and of what was written at once only a prefix was taken
pub DeliveredPrefix-written : (start mid now : Option (List ℕ)) (text bytes : List ℕ) (count : ℕ) → Appends mid now (take count bytes) → Delivered start mid [] text → DeliveredPrefix start now [] (text ++ bytes)
DeliveredPrefix-written start mid now text bytes count written before = record {
  prefix = text ++ take count bytes;
  lost = drop count bytes;
  parts = append_assoc text (take count bytes) (drop count bytes) ∙ ap (λ rest. text ++ rest) (take-append-drop count bytes);
  delivered = Delivered-written start mid now text (take count bytes) written before;
}

pub OnErr-written : {T E : Type 0} (start mid now : Option (List ℕ)) (held text bytes : List ℕ) (result : Result T E) → held ≡ [] → Wrote mid now bytes result → Delivered start mid held text → OnErr result (DeliveredPrefix start now held (text ++ bytes))
OnErr-written start mid now held text bytes (Ok value) none wrote before = tt
OnErr-written start mid now held text bytes (Err error) none wrote before =
    rw none (DeliveredPrefix-written start mid now text bytes wrote.count wrote.written (rw none at before))

-- where nothing is held any more, the whole text was written
pub Wrote-delivered : {T E : Type 0} (start now : Option (List ℕ)) (text : List ℕ) (value : T) → Delivered start now [] text → Wrote {T = T} {E = E} start now text (Ok value)
Wrote-delivered start now text value end =
    let same : end.given ≡ text = sym (append-nil end.given) ∙ end.all in
    record { count = length text; within = omega arith; written = rw (take_all (length text) text (omega arith)) (rw same at end.appended); whole = λ _. refl }

-- after a fault a prefix of the text was written
pub Wrote-prefix : {T E : Type 0} (start now : Option (List ℕ)) (held text : List ℕ) (error : E) → DeliveredPrefix start now held text → Wrote {T = T} {E = E} start now text (Err error)
Wrote-prefix start now held text error end =
    let given = end.delivered.given in
    let parts : text ≡ given ++ (held ++ end.lost) = sym end.parts ∙ (ap (λ front. front ++ end.lost) (sym end.delivered.all) ∙ append_assoc given held end.lost) in
    let front : take (length given) text ≡ given = ap (take (length given)) parts ∙ take-append_seam given (held ++ end.lost) in
    record {
      count = length given;
      within = rw parts (omega (arith, length-append given (held ++ end.lost)));
      written = rw front end.delivered.appended;
      whole = λ ok. cc;
    }

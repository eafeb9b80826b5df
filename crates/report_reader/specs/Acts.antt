-- What happened in an entry, by the fields of its line.
use Rattle.std.specs.Prelude.{ℕ, List, [], ◌∷◌, Option, Some, None, option_map, codes}
use Rattle.serde_json.specs.Data.{Data}
use Rattle.json_lines.specs.Reading.{flag_at, number_at}
use Rattle.ot_op.specs.declared.comp.Comp.{Comp}
use Rattle.journal_entries.specs.declared.act.Act.{Act}
use Rattle.journal_entries.specs.declared.act.Act.TheVariants.{Made, Ticked, Joined, Edited, Sent, Malformed, Got, Left, Acquired, Loaded, LoadFailed, LoadDiffers, Committed, Released, Flushed, FlushFailed, Unloaded, Handed, Declined, Closed}
use Rattle.journal_entries.specs.declared.update.Update.{Update}
use Rattle.report_reader.specs.declared.kind.ActKind.{ActKind}
use Rattle.report_reader.specs.declared.kind.ActKind.TheVariants as kind
use Rattle.report_reader.specs.Details.{brief_of, fault_of, outcome_of, why_of}
use Rattle.report_reader.specs.Fields.{and_then, each_at, name_at, number_of, number_or_null_at, operation_at, u32_at, u32_or_null_at, units_at}

abbrev pub made_of : Data → Option Act
made_of d =
    and_then (u32_at (codes "doc") d) (λ doc. and_then (name_at (codes "name") d) (λ name. and_then (name_at (codes "project") d) (λ project.
    and_then (units_at (codes "text") d) (λ first. option_map (λ base. Made doc name project first base) (number_at (codes "base") d)))))

abbrev pub joined_of : Data → Option Act
joined_of d =
    and_then (u32_at (codes "client") d) (λ client. and_then (u32_at (codes "doc") d) (λ doc. and_then (name_at (codes "user") d) (λ user.
    and_then (flag_at (codes "track") d) (λ track. and_then (number_or_null_at (codes "from") d) (λ since. and_then (number_at (codes "source") d) (λ source.
    option_map (λ v. Joined client doc user track since source v) (number_at (codes "v") d)))))))

-- the only component of an operation
abbrev pub only_component : List Comp → Option Comp
only_component (comp ∷ []) = Some comp
only_component comps = None

abbrev pub edited_of : Data → Option Act
edited_of d = and_then (u32_at (codes "client") d) (λ client. option_map (λ comp. Edited client comp) (and_then (operation_at (codes "op") d) only_component))

abbrev pub update_of : Data → Option Update
update_of d =
    and_then (u32_at (codes "doc") d) (λ doc. and_then (u32_or_null_at (codes "client") d) (λ client. and_then (number_at (codes "number") d) (λ number.
    and_then (number_at (codes "source") d) (λ source. and_then (each_at number_of (codes "dup") d) (λ dup. and_then (name_at (codes "user") d) (λ user.
    and_then (flag_at (codes "track") d) (λ track. and_then (number_at (codes "ms") d) (λ ms. and_then (number_at (codes "v") d) (λ v.
    option_map (λ op. record { doc = doc; client = client; number = number; source = source; dup = dup; user = user; track = track; ms = ms; v = v; op = op })
    (operation_at (codes "op") d))))))))))

abbrev pub malformed_of : Data → Option Act
malformed_of d = and_then (u32_at (codes "doc") d) (λ doc. option_map (λ fault. Malformed doc fault) (fault_of d))

abbrev pub got_of : Data → Option Act
got_of d = and_then (u32_at (codes "client") d) (λ client. option_map (λ brief. Got client brief) (brief_of d))

-- an act on a document under a lock's token
abbrev pub locked_of : (ℕ → ℕ → Option Act) → Data → Option Act
locked_of act d = and_then (u32_at (codes "doc") d) (λ doc. and_then (number_at (codes "token") d) (act doc))

abbrev pub loading_of : (ℕ → Option ℕ → Option Act) → Data → Option Act
loading_of act d = and_then (u32_at (codes "doc") d) (λ doc. and_then (number_or_null_at (codes "token") d) (act doc))

-- the keeper's counts of faults as a call began and as it ended
abbrev pub with_counts_of : (ℕ → ℕ → Act) → Data → Option Act
with_counts_of act d = and_then (number_at (codes "before") d) (λ before. option_map (act before) (number_at (codes "after") d))

abbrev pub acquired_of : Data → Option Act
acquired_of d = locked_of (λ doc token. option_map (λ until. Acquired doc token until) (number_at (codes "until") d)) d

abbrev pub loaded_of : Data → Option Act
loaded_of d = loading_of (λ doc token. option_map (λ v. Loaded doc token v) (number_at (codes "v") d)) d

abbrev pub load_failed_of : Data → Option Act
load_failed_of d = loading_of (λ doc token. with_counts_of (LoadFailed doc token) d) d

abbrev pub load_differs_of : Data → Option Act
load_differs_of d = loading_of (λ doc token. and_then (number_at (codes "had") d) (λ had. option_map (λ got. LoadDiffers doc token had got) (number_or_null_at (codes "got") d))) d

abbrev pub committed_of : Data → Option Act
committed_of d = locked_of (λ doc token. and_then (number_at (codes "ticket") d) (λ ticket. option_map (λ outcome. Committed doc token ticket outcome) (outcome_of d))) d

abbrev pub released_of : Data → Option Act
released_of d = locked_of (λ doc token. Some (Released doc token)) d

abbrev pub flushed_of : Data → Option Act
flushed_of d = locked_of (λ doc token. option_map (λ v. Flushed doc token v) (number_at (codes "v") d)) d

abbrev pub flush_failed_of : Data → Option Act
flush_failed_of d = locked_of (λ doc token. with_counts_of (FlushFailed doc token) d) d

abbrev pub unloaded_of : Data → Option Act
unloaded_of d = locked_of (λ doc token. Some (Unloaded doc token)) d

abbrev pub declined_of : Data → Option Act
declined_of d = and_then (u32_at (codes "session") d) (λ session. option_map (λ why. Declined session why) (why_of d))

-- the act of an entry of a kind, which hands out so many items
abbrev pub act_of : ActKind → ℕ → Data → Option Act
act_of kind.Made count d = made_of d
act_of kind.Ticked count d = option_map (λ ms. Ticked ms) (number_at (codes "ms") d)
act_of kind.Joined count d = joined_of d
act_of kind.Edited count d = edited_of d
act_of kind.Sent count d = option_map (λ update. Sent update) (update_of d)
act_of kind.Malformed count d = malformed_of d
act_of kind.Got count d = got_of d
act_of kind.Left count d = option_map (λ client. Left client) (u32_at (codes "client") d)
act_of kind.Acquired count d = acquired_of d
act_of kind.Loaded count d = loaded_of d
act_of kind.LoadFailed count d = load_failed_of d
act_of kind.LoadDiffers count d = load_differs_of d
act_of kind.Committed count d = committed_of d
act_of kind.Released count d = released_of d
act_of kind.Flushed count d = flushed_of d
act_of kind.FlushFailed count d = flush_failed_of d
act_of kind.Unloaded count d = unloaded_of d
act_of kind.Handed count d = option_map (λ project. Handed project count) (name_at (codes "project") d)
act_of kind.Declined count d = declined_of d
act_of kind.Closed count d = option_map (λ driver. Closed driver) (u32_at (codes "driver") d)

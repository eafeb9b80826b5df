-- The worked rows are legal, entry by entry: each row can be met.
use Rattle.std.proofs.Common.{◌≤◌, zero, suc, List, [], ◌∷◌, ◌++◌, refl, inl, arith, All}
use Rattle.ot_op.specs.declared.comp.Comp.{Comp}
use Rattle.ot_op.specs.Operation.{place}
use Rattle.ot_transform.specs.Crossing.{crossed}
use Rattle.journal_entries.specs.declared.message.Msg.TheVariants.{Op, Ack}
use Rattle.journal_entries.specs.declared.act.Entry.{Entry}
use Rattle.journal_rules.specs.Documents.{makings, applied_list, sent, committed}
use Rattle.journal_rules.specs.Locks.{clock, acquirings, last_acquiring, released, used}
use Rattle.journal_rules.specs.Mail.{outbox}
use Rattle.journal_rules.specs.Client.{client}
use Rattle.journal_rules.specs.Keeping.{cached, loading, kept}
use Rattle.journal_rules.specs.Legal.{IsAllowed, closed}
use Rattle.journal_laws.proofs.Rows.{room_row, resend_row, leave_row, of_c, raw, del_b, ins_x}

abbrev AllowedFrom : List Entry → List Entry → Type 0
AllowedFrom before [] = Unit {0}
AllowedFrom before (e ∷ es) = IsAllowed before e.seat e.act × AllowedFrom (before ++ e ∷ []) es

near : All (λ (c : Comp). place c ≤ 1000000000) del_b
near zero d h = omega arith
near (suc k) d h = absurd (omega arith)

pub room_legal : AllowedFrom [] room_row
unfolding makings applied_list sent committed clock acquirings last_acquiring released used outbox client cached loading kept closed crossed
room_legal = (
  record { next = refl; new = refl; short = omega arith; low = omega arith },
  (
    record { made = omega arith; cached_is = refl; v_is = refl; source_is = refl },
    (
      record { made = omega arith; unnumbered = refl; source_low = omega arith; at_once = refl; within = record { few = omega arith; short = omega arith; in_reach = near } },
      (
        record { joined = refl; solid = refl; applies = refl; few = omega arith; short = omega arith },
        (
          refl,
          (
            record { made = omega arith; free = inl refl; token_is = refl; until_is = refl },
            (
              record { holds = record { acquiring = record { seat = 0; doc = 0; token = 1; until = 30000 }; held = record { last = refl; standing = refl }; token_is = refl; seat_is = refl }; unused = refl; rest = 4 ∷ []; first = refl; ends = inl (record { update = raw 1 0 del_b; named = refl; cached_is = refl; outcome_is = refl }) },
              (
                record { acquiring = record { seat = 0; doc = 0; token = 1; until = 30000 }; held = record { last = refl; standing = refl }; token_is = refl; seat_is = refl },
                (
                  record { made = omega arith; free = inl refl; token_is = refl; until_is = refl },
                  (
                    record { holds = record { acquiring = record { seat = 0; doc = 0; token = 2; until = 30000 }; held = record { last = refl; standing = refl }; token_is = refl; seat_is = refl }; unused = refl; rest = []; first = refl; ends = inl (record { update = of_c 1 1000001 0 [] ins_x; named = refl; cached_is = refl; outcome_is = refl }) },
                    (
                      record { acquiring = record { seat = 0; doc = 0; token = 2; until = 30000 }; held = record { last = refl; standing = refl }; token_is = refl; seat_is = refl },
                      (
                        record { message = Op 0 del_b 1; rest = Ack 1 1 ∷ []; first = refl; brief_is = refl },
                        (
                          record { message = Ack 1 1; rest = []; first = refl; brief_is = refl },
                          (
                            refl,
                            (
                              omega arith,
                              (
                                record { made = omega arith; free = inl refl; token_is = refl; until_is = refl },
                                (
                                  record { holds = record { acquiring = record { seat = 0; doc = 0; token = 3; until = 60000 }; held = record { last = refl; standing = refl }; token_is = refl; seat_is = refl }; cached_is = refl; v_is = refl },
                                  (
                                    record { acquiring = record { seat = 0; doc = 0; token = 3; until = 60000 }; held = record { last = refl; standing = refl }; token_is = refl; seat_is = refl },
                                    tt,
                                  ),
                                ),
                              ),
                            ),
                          ),
                        ),
                      ),
                    ),
                  ),
                ),
              ),
            ),
          ),
        ),
      ),
    ),
  ),
)

pub resend_legal : AllowedFrom [] resend_row
unfolding makings applied_list sent committed clock acquirings last_acquiring released used outbox client cached loading kept closed crossed
resend_legal = (
  record { next = refl; new = refl; short = omega arith; low = omega arith },
  (
    record { made = omega arith; cached_is = refl; v_is = refl; source_is = refl },
    (
      record { joined = refl; solid = refl; applies = refl; few = omega arith; short = omega arith },
      (
        refl,
        (
          refl,
          (
            record { made = omega arith; free = inl refl; token_is = refl; until_is = refl },
            (
              record { holds = record { acquiring = record { seat = 0; doc = 0; token = 1; until = 30000 }; held = record { last = refl; standing = refl }; token_is = refl; seat_is = refl }; unused = refl; rest = 4 ∷ []; first = refl; ends = inl (record { update = of_c 1 1000001 0 [] ins_x; named = refl; cached_is = refl; outcome_is = refl }) },
              (
                record { acquiring = record { seat = 0; doc = 0; token = 1; until = 30000 }; held = record { last = refl; standing = refl }; token_is = refl; seat_is = refl },
                (
                  record { made = omega arith; free = inl refl; token_is = refl; until_is = refl },
                  (
                    record { holds = record { acquiring = record { seat = 0; doc = 0; token = 2; until = 30000 }; held = record { last = refl; standing = refl }; token_is = refl; seat_is = refl }; unused = refl; rest = []; first = refl; ends = inl (record { update = of_c 1 1000001 0 (1000001 ∷ []) ins_x; named = refl; cached_is = refl; outcome_is = refl }) },
                    (
                      record { acquiring = record { seat = 0; doc = 0; token = 2; until = 30000 }; held = record { last = refl; standing = refl }; token_is = refl; seat_is = refl },
                      (
                        record { message = Ack 0 1; rest = Ack 0 1 ∷ []; first = refl; brief_is = refl },
                        (
                          record { message = Ack 0 1; rest = []; first = refl; brief_is = refl },
                          (
                            refl,
                            (
                              omega arith,
                              (
                                record { made = omega arith; free = inl refl; token_is = refl; until_is = refl },
                                (
                                  record { holds = record { acquiring = record { seat = 0; doc = 0; token = 3; until = 60000 }; held = record { last = refl; standing = refl }; token_is = refl; seat_is = refl }; cached_is = refl; v_is = refl },
                                  (
                                    record { acquiring = record { seat = 0; doc = 0; token = 3; until = 60000 }; held = record { last = refl; standing = refl }; token_is = refl; seat_is = refl },
                                    tt,
                                  ),
                                ),
                              ),
                            ),
                          ),
                        ),
                      ),
                    ),
                  ),
                ),
              ),
            ),
          ),
        ),
      ),
    ),
  ),
)

pub leave_legal : AllowedFrom [] leave_row
unfolding makings applied_list sent committed clock acquirings last_acquiring released used outbox client cached loading kept closed crossed
leave_legal = (
  record { next = refl; new = refl; short = omega arith; low = omega arith },
  (
    record { made = omega arith; cached_is = refl; v_is = refl; source_is = refl },
    (
      record { joined = refl; solid = refl; applies = refl; few = omega arith; short = omega arith },
      (
        refl,
        (
          inl refl,
          (
            record { made = omega arith; free = inl refl; token_is = refl; until_is = refl },
            (
              record { holds = record { acquiring = record { seat = 0; doc = 0; token = 1; until = 30000 }; held = record { last = refl; standing = refl }; token_is = refl; seat_is = refl }; unused = refl; rest = []; first = refl; ends = inl (record { update = of_c 1 1000001 0 [] ins_x; named = refl; cached_is = refl; outcome_is = refl }) },
              (
                record { acquiring = record { seat = 0; doc = 0; token = 1; until = 30000 }; held = record { last = refl; standing = refl }; token_is = refl; seat_is = refl },
                (
                  record { left = refl; since_is = refl; doc_is = refl; user_is = refl; track_is = refl; recent = omega arith; v_is = refl; source_is = refl },
                  (
                    tt,
                    (
                      refl,
                      (
                        omega arith,
                        (
                          record { made = omega arith; free = inl refl; token_is = refl; until_is = refl },
                          (
                            record { holds = record { acquiring = record { seat = 0; doc = 0; token = 2; until = 60000 }; held = record { last = refl; standing = refl }; token_is = refl; seat_is = refl }; cached_is = refl; v_is = refl },
                            (
                              record { acquiring = record { seat = 0; doc = 0; token = 2; until = 60000 }; held = record { last = refl; standing = refl }; token_is = refl; seat_is = refl },
                              tt,
                            ),
                          ),
                        ),
                      ),
                    ),
                  ),
                ),
              ),
            ),
          ),
        ),
      ),
    ),
  ),
)

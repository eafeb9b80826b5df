-- Tracked changes and comments of a document, as cells in a row.
use Rattle.std.specs.Prelude.{ℕ, zero, suc, ◌+◌, ◌-◌, Bool, false, not, List, [], ◌∷◌, ◌++◌, length, take, drop, map, filter, Option, Some, None, is_some, ◌&&◌, ◌||◌, ◌==◌, nat_le, nat_lt, if◌then◌else◌}
use Rattle.std.specs.Str.{bytes_eq}
use Rattle.ot_op.specs.declared.comp.Comp.{Comp}
pub use Rattle.ranges_tracker.specs.declared.mark.Mark.{Mark}
pub use Rattle.ranges_tracker.specs.declared.stamp.Stamp.{Stamp}
pub use Rattle.ranges_tracker.specs.declared.mark.Chosen.{Chosen}
use Rattle.ot_op.specs.declared.comp.Comp.TheVariants.{Ins, Del, Com}

abbrev pub same_mark : Mark → Mark → Bool
same_mark m n = (m.version == n.version) && ((m.k == n.k) && ((m.ms == n.ms) && bytes_eq m.user n.user))

-- a unit of the text
pub record Live : Type 0 where
  pub unit : ℕ
  pub mark : Option Mark

-- a unit that was taken out, and the gap in which it stands: the number of live cells before it
pub record Gone : Type 0 where
  pub gap : ℕ
  pub unit : ℕ
  pub mark : Mark

-- the gaps in which a thread starts and ends
pub record Thread : Type 0 where
  pub thread : ℕ
  pub from : ℕ
  pub to : ℕ

-- the live cells and the gone cells in the order of the row, and the threads as they were first set
pub record Row : Type 0 where
  pub lives : List Live
  pub gone : List Gone
  pub threads : List Thread

abbrev pub text_of : List Live → List ℕ
text_of lives = map (λ (l : Live). l.unit) lives

-- a text without marks and threads
abbrev pub plain_row : List ℕ → Row
plain_row text = record { lives = map (λ (u : ℕ). record { unit = u; mark = None }) text; gone = []; threads = [] }

abbrev pub fresh_mark : Stamp → ℕ → Mark
fresh_mark stamp k = record { version = stamp.version; k = k; user = stamp.user; ms = stamp.ms }

-- the mark of a live cell, by its number
abbrev pub mark_at : List Live → ℕ → Option Mark
mark_at [] at = None
mark_at (l ∷ ls) zero = l.mark
mark_at (l ∷ ls) (suc at) = mark_at ls at

-- the mark of the live cell before a gap
abbrev pub mark_before : List Live → ℕ → Option Mark
mark_before ls zero = None
mark_before ls (suc at) = mark_at ls at

abbrev pub bears : Option Mark → Mark → Bool
bears None m = false
bears (Some n) m = same_mark n m

-- a mark, where it is this user's
abbrev pub own : List ℕ → Option Mark → Option Mark
own user None = None
own user (Some m) = if bytes_eq user m.user then Some m else None

abbrev pub first_of : Option Mark → Option Mark → Mark → Chosen
first_of (Some m) after new = record { mark = Some m; fresh = 0 }
first_of None (Some m) new = record { mark = Some m; fresh = 0 }
first_of None None new = record { mark = Some new; fresh = 1 }

abbrev pub chosen : Option Mark → Option Mark → Stamp → ℕ → Chosen
chosen before after stamp k = if stamp.track then first_of (own stamp.user before) (own stamp.user after) (fresh_mark stamp k) else record { mark = None; fresh = 0 }

-- a mark that stands on both sides of a place where cells come in that do not bear it
abbrev pub torn : Option Mark → Option Mark → Option Mark → Option Mark
torn None after new = None
torn (Some m) after new = if bears after m && not (bears new m) then Some m else None

-- a fresh mark with the user and the moment of an old one
abbrev pub renewed : Mark → Stamp → ℕ → Mark
renewed old stamp k = record { version = stamp.version; k = k; user = old.user; ms = old.ms }

abbrev pub exchanged : Mark → Mark → Option Mark → Option Mark
exchanged old new None = None
exchanged old new (Some m) = if same_mark m old then Some new else Some m

-- all cells of the torn mark get one fresh mark
abbrev pub remarked : Option Mark → Stamp → ℕ → List Live → List Live
remarked None stamp k ls = ls
remarked (Some old) stamp k ls = map (λ (l : Live). record { unit = l.unit; mark = exchanged old (renewed old stamp k) l.mark }) ls

abbrev pub count : Option Mark → ℕ
count None = 0
count (Some m) = 1

-- a row after a component, and the count of fresh marks then
pub record Stepped : Type 0 where
  pub row : Row
  pub marks : ℕ

abbrev pub raised : ℕ → ℕ → ℕ → ℕ
raised at n g = if nat_le at g then g + n else g

abbrev pub shifted : (ℕ → ℕ) → Gone → Gone
shifted f g = record { gap = f g.gap; unit = g.unit; mark = g.mark }

abbrev pub new_lives : List ℕ → Option Mark → List Live
new_lives units mark = map (λ (u : ℕ). record { unit = u; mark = mark }) units

-- the new cells stand before the gone cells of their gap, and behind the ends of threads begun earlier
abbrev pub inserted : Row → ℕ → List ℕ → Stamp → ℕ → Stepped
inserted row at part stamp k =
    let by = chosen (mark_before row.lives at) (mark_at row.lives at) stamp k in
    let old = torn (mark_before row.lives at) (mark_at row.lives at) by.mark in
    record {
      row = record {
        lives = take at row.lives ++ (new_lives part by.mark ++ remarked old stamp (k + by.fresh) (drop at row.lives));
        gone = map (shifted (raised at (length part))) row.gone;
        threads = map (λ (t : Thread). record { thread = t.thread; from = raised at (length part) t.from; to = if nat_le at t.from || nat_lt at t.to then t.to + length part else t.to }) row.threads;
      };
      marks = k + by.fresh + count old;
    }

-- a gap after some live cells are gone
abbrev pub squashed : ℕ → ℕ → ℕ → ℕ
squashed at n g = if nat_lt g at then g else if nat_le g (at + n) then at else g - n

-- the gone units of a gap
abbrev pub units_in : ℕ → List Gone → List ℕ
units_in g [] = []
units_in g (x ∷ xs) = (if x.gap == g then x.unit ∷ [] else []) ++ units_in g xs

abbrev pub some_unmarked : List Live → Bool
some_unmarked [] = false
some_unmarked (l ∷ ls) = not (is_some l.mark) || some_unmarked ls

abbrev pub gone_at : ℕ → Mark → ℕ → Gone
gone_at gap mark u = record { gap = gap; unit = u; mark = mark }

abbrev pub unmarked : Live → List ℕ
unmarked l = if is_some l.mark then [] else l.unit ∷ []

-- the gone cells of the gaps around some live cells, from the gap `at` on, and among them the live ones that bear no mark
abbrev pub mixed : ℕ → List Live → List Gone → List ℕ
mixed at [] gone = units_in at gone
mixed at (l ∷ ls) gone = units_in at gone ++ (unmarked l ++ mixed (at + 1) ls gone)

abbrev pub deleted : Row → ℕ → ℕ → Stamp → ℕ → Stepped
deleted row at n stamp k =
    let out = take n (drop at row.lives) in
    let fresh = stamp.track && some_unmarked out in
    let new = fresh_mark stamp k in
    record {
      row = record {
        lives = take at row.lives ++ drop (at + n) row.lives;
        gone = if fresh then filter (λ (g : Gone). nat_lt g.gap at) row.gone ++ (map (gone_at at new) (mixed at out row.gone)
            ++ map (shifted (λ (x : ℕ). x - n)) (filter (λ (g : Gone). nat_lt (at + n) g.gap) row.gone))
            else map (shifted (squashed at n)) row.gone;
        threads = map (λ (t : Thread). record { thread = t.thread; from = squashed at n t.from; to = squashed at n t.to }) row.threads;
      };
      marks = if fresh then k + 1 else k;
    }

abbrev pub set_thread : ℕ → ℕ → ℕ → List Thread → List Thread
set_thread t from to [] = record { thread = t; from = from; to = to } ∷ []
set_thread t from to (x ∷ xs) = if x.thread == t then record { thread = t; from = from; to = to } ∷ xs else x ∷ set_thread t from to xs

-- a row after one component of an update, where k counts the update's fresh marks
abbrev pub step : Row → Comp → Stamp → ℕ → Stepped
step row (Ins at part) stamp k = inserted row at part stamp k
step row (Del at part) stamp k = deleted row at (length part) stamp k
step row (Com at part thread) stamp k = record { row = record { lives = row.lives; gone = row.gone; threads = set_thread thread at (at + length part) row.threads }; marks = k }

abbrev pub steps : Row → List Comp → Stamp → ℕ → Stepped
steps row [] stamp k = record { row = row; marks = k }
steps row (c ∷ cs) stamp k = let next = step row c stamp k in steps next.row cs stamp next.marks

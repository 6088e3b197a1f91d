-- A segment of a report, line after line.
use Rattle.bag_walk.proofs.Common.{◌≡◌, ◌<◌, ◌≤◌, ◌+◌, ◌-◌, ◌++◌, ◌∷◌, ◌⊎◌, inl, inr, ℕ, List, [], Option, None, Some}
use Rattle.bag_walk.proofs.Common.{Contains, length, take, drop, slice_get, IsTrue, refl, sym, ap, ◌∙◌, subst, arith}
use Rattle.bag_walk.proofs.Common.{append-nil, Appends, concat, length-append, map-append, take-map, append_cancel_left}
use Rattle.bag_walk.proofs.Common.{take-append-drop, take-append_seam, contains_back, OutState, Bag, MayReportMemory}
use Rattle.bag_walk.proofs.Common.{NothingFailed, TreeState, Keeps, Stop, Memory, memory_then, IsOutOfMemory, Fault}
use Rattle.bag_walk.proofs.Common.{written, written_line, IsCut, IsRefusedAmong, NoFaultBeforeStop, Opens, OpensAgain}
use Rattle.bag_walk.proofs.Common.{OpensNoFileEarly, first_of, rest_of, MayStopFilling, Sees, front_is, none_is}
use Rattle.bag_walk.proofs.Common.{IsLastOf, IsSegment, MayStopRun, AtEnd, drop-drop, drop_at, take_at, slice_get-map}
use Rattle.bag_walk.proofs.Common.{option_map, true}
use Rattle.bag_walk.proofs.RunLines.{concat-append_one, cut_at, place_behind}
use Rattle.bag_tree.proofs.Writing.{Appends-append}
use Rattle.bag_sources.proofs.Filling.{behind_on, once, reached_on, sees_later, sees_parts, stop_later}
use Rattle.bag_walk.specs.declared.segment.SegmentEnd.TheVariants.{Full, Unread, Unwritten}

pub opens_nothing : (old : TreeState) (xs : List (List ℕ)) → Opens xs xs old old
opens_nothing old xs = record { opened = []; openings = sym (append-nil old.openings); left = refl }

pub none_opened : (old : TreeState) (faults : List Fault) → OpensNoFileEarly faults old old
none_opened old faults opened e f path c d = grind (arith, append-nil old.openings, append_cancel_left)

-- what is left after so many is left after fewer
dropped_within : (n m : ℕ) (faults : List Fault) (f : Fault) → m ≤ n → Contains (drop n faults) f
    → Contains (drop m faults) f
dropped_within n m faults f h c =
    let all : m + (n - m) ≡ n = omega arith in
    subst (λ l. Contains l f) (take-append-drop (n - m) (drop m faults))
    (contains_back (take (n - m) (drop m faults)) _ f (rw (drop-drop, all) c))

line_at : (given rest : List Fault) (f : Fault)
    → slice_get (written (given ++ f ∷ rest)) (length given) ≡ Some (written_line f)
line_at given rest f =
    slice_get-map written_line (given ++ f ∷ rest) (length given)
    ∙ ap (option_map written_line) (place_behind given rest f)

lines_before : (given rest : List Fault) → take (length given) (written (given ++ rest)) ≡ written given
lines_before given rest =
    take-map written_line (length given) (given ++ rest) ∙ ap written (take_at given rest (length given) refl)

-- one line more
pub one_line_more : (given : List Fault) (f : Fault) (old mid new : OutState)
    → Appends old.taken mid.taken (concat (written given)) → Appends mid.taken new.taken (written_line f)
    → Appends old.taken new.taken (concat (written (given ++ f ∷ [])))
one_line_more given f old mid new t more =
    subst (Appends old.taken new.taken)
    (sym (ap concat (map-append written_line given (f ∷ [])) ∙ concat-append_one (written given) (written_line f)))
    (Appends-append old.taken mid.taken new.taken (concat (written given)) (written_line f) t more)

-- so many faults were given and written; of a bag that is seen they are the first
pub record HasWritten (limit count : ℕ) (IsOf IsOfNow : Bag → Type 0) (left left_now : Bag → List Fault)
    (todo todo_now : List (List ℕ)) (old now : TreeState) (before after : OutState) (line line_now : List ℕ) : Type 0
  where
    pub keeps : Keeps old now
    pub no_failure : NothingFailed old now
    pub within : count ≤ limit
    pub given : List Fault
    pub count_is : length given ≡ count
    pub written_so_far : Appends before.taken after.taken (concat (written given))
    pub last : (rest : List Fault) → IsLastOf (given ++ rest) count line line_now
    pub opens : Opens todo todo_now old now
    pub none_early : (bag : Bag) → IsOf bag → Sees old todo bag → OpensNoFileEarly (drop (count - 1) (left bag)) old now
    pub seen : (bag : Bag) → IsOf bag → Sees old todo bag → IsOfNow bag × (left bag ≡ given ++ left_now bag)

module _ {limit count : ℕ} {IsOf IsOfNow : Bag → Type 0} {left left_now : Bag
    → List Fault} {todo todo_now : List (List ℕ)}
    {old now : TreeState} {before mid : OutState} {line line_now : List ℕ}
    (has : HasWritten limit count IsOf IsOfNow left left_now todo todo_now old now before mid line line_now) where
  -- what is so of a bag that is seen now is so of one that was
  pub seen_now : (P : Bag → Type 0) → ((bag : Bag) → IsOfNow bag → Sees now todo_now bag → P bag) → (bag : Bag)
      → IsOf bag → Sees old todo bag → P bag
  seen_now P so bag h sees =
      so bag (has.seen bag h sees).0
      (sees_later todo_now bag has.keeps
      (sees_parts old has.opens.opened todo_now bag (subst (λ l. Sees old l bag) has.opens.left sees)).1)

  of_now : (IsTrue old.honest → IsOf old.bag) → IsTrue now.honest → IsOfNow now.bag
  of_now of honest = grind arith

  -- the next step stopped
  pub stops_now : (new : TreeState) (todo_new : List (List ℕ)) (stop : Stop)
      → IsOutOfMemory stop ⊎ IsRefusedAmong todo_now now new stop.path
      → (stop.cause ≡ Memory → MayReportMemory now new)
      → ((IsTrue now.honest → IsOfNow now.bag) → MayStopFilling todo_new now new stop)
      → MayStopRun (IsTrue old.honest → IsOf old.bag) todo old new stop
  stops_now new todo_new stop (inl memory) tells h =
      inl (memory, memory_then old now new has.no_failure (tells memory.0))
  stops_now new todo_new stop (inr reached) tells h = inr (λ of.
      let filling = stop_later has.keeps has.no_failure (h (of_now of)) in record {
        cause = filling.cause;
        answered = filling.answered;
        path = inr (reached_on has.opens new stop.path reached);
        memory = filling.memory;
        out_of_memory = filling.out_of_memory;
      })

  -- so many lines were written
  pub lines_written : (rest : List Fault)
      → Appends before.taken mid.taken (concat (written (take count (has.given ++ rest))))
  lines_written rest = grind (arith, take-append_seam)

  size : (rest : List Fault) → length (has.given ++ rest) ≡ count + length rest
  size rest = length-append has.given rest ∙ ap (λ n. n + length rest) has.count_is

  pub ends_full : (rest : List Fault) → limit ≤ count
      → IsSegment (has.given ++ rest) limit before mid (record { written = count; end = Full })
  ends_full rest past = record {
    ends = (omega (arith, past, has.within), omega (arith, size rest));
    wrote = lines_written rest;
  }

  pub ends_at_end : count < limit
      → IsSegment (has.given ++ []) limit before mid (record { written = count; end = AtEnd })
  ends_at_end less = record { ends = (less, omega (arith, size [])); wrote = lines_written [] }

  pub ends_unread : (rest : List Fault) (stop : Stop) → count < limit
      → IsSegment (has.given ++ rest) limit before mid (record { written = count; end = Unread stop })
  ends_unread rest stop less = record { ends = (less, omega (arith, size rest)); wrote = lines_written rest }

  pub ends_unwritten : (f : Fault) (rest : List Fault) (after : OutState) → count < limit → after.has_refused ≡ true
      → IsCut mid.taken after.taken (written_line f)
      → IsSegment (has.given ++ f ∷ rest) limit before after (record { written = count; end = Unwritten })
  ends_unwritten f rest after less is_refused cut = record {
    ends = (less, omega (arith, size (f ∷ rest)));
    wrote = (
      is_refused,
      rw (← has.count_is)
          (cut_at (written (has.given ++ f ∷ rest)) (length has.given) (written_line f) before.taken mid.taken
          after.taken (line_at has.given rest f)
          (rw (lines_before has.given (f ∷ rest)) has.written_so_far) cut),
    );
  }

  -- of a bag that is seen
  module _ (bag : Bag) (h : IsOf bag) (sees : Sees old todo bag) where
    pub left_is : left bag ≡ has.given ++ left_now bag
    left_is = (has.seen bag h sees).1

    -- and the last line is of the last of them
    pub last_is : (same : List ℕ) → same ≡ line_now → IsLastOf (left bag) count line same
    last_is same e = rw (e, left_is) (has.last (left_now bag))

    to_come : drop count (left bag) ≡ left_now bag
    to_come = ap (drop count) left_is ∙ drop_at has.given (left_now bag) count has.count_is

    module _ (shown : Option Fault) (first : shown ≡ first_of (left_now bag)) where
      pub left_at_end : shown ≡ None → left bag ≡ has.given ++ []
      left_at_end none = left_is ∙ ap (λ l. has.given ++ l) (none_is (left_now bag) (sym first ∙ none))

      pub left_at : (f : Fault) → shown ≡ Some f → left bag ≡ has.given ++ f ∷ rest_of (left_now bag)
      left_at f some = left_is ∙ ap (λ l. has.given ++ l) (front_is (left_now bag) f (sym first ∙ some))

  -- it stopped at a file before which nothing stands that is left
  pub waits_now : (path : List ℕ)
      → ((bag : Bag) → IsOfNow bag → Sees now todo_now bag → NoFaultBeforeStop (left_now bag) path)
      → (bag : Bag) → IsOf bag → Sees old todo bag → NoFaultBeforeStop (drop count (left bag)) path
  waits_now path waits bag h sees = rw (to_come bag h sees) (seen_now _ waits bag h sees)

  -- one step more opened no file after what was left
  pub behind_now : {new : TreeState} {todo_new : List (List ℕ)} → OpensAgain todo_now todo_new now new
      → ((bag : Bag) → IsOfNow bag → Sees now todo_now bag → OpensNoFileEarly (left_now bag) now new)
      → (bag : Bag) → IsOf bag → Sees old todo bag → OpensNoFileEarly (drop count (left bag)) old new
  behind_now again after bag h sees =
      behind_on (drop (count - 1) (left bag)) (drop count (left bag)) (once has.opens) again (has.none_early bag h sees)
      (rw (to_come bag h sees) (seen_now _ after bag h sees)) (λ f c.
      dropped_within count (count - 1) (left bag) f (omega arith) c)

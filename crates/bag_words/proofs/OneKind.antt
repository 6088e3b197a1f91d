-- A command without subcommands gives one kind of error at most.
use Rattle.bag_words.proofs.Common.{arith, ◌≡◌, min, ℕ, zero, suc, Bool, true, List, [], ◌∷◌, Option, Some, None}
use Rattle.bag_words.proofs.Common.{is_some, if◌then◌else◌, nat_lt, ⊤, slice_get, Shape, argument_words}
use Rattle.bag_words.proofs.Common.{App, built, fault_of, ValueParser}
use Rattle.std.specs.Option.{option_map_or}
use Rattle.std.specs.Str.{bytes_eq, chars}
use Rattle.clap.specs.Lexer.{long_of}
use Rattle.clap.specs.ValueTests.{accepts}
use Rattle.clap.specs.Kinds.{Kinds, or_else, value_kinds, values_kinds}
use Rattle.clap.specs.Faults.{use_fault, action_fault, settle_fault, react_fault, option_fault, long_fault, short_fault}
use Rattle.clap.specs.Faults.{bundle_step_fault, flags_fault, flag_word_fault, other_fault, word_fault, turn_fault}
use Rattle.clap.specs.Faults.{walk_fault, default_fault, defaults_fault, built_fault}
use Rattle.clap.specs.Walk.{Held, Row, Rule, Text, Waiting, Walk, idle, attached_value, nothing_held, reacted, settled}
use Rattle.clap.specs.Walk.{takes_values, walked, with_default}
use Rattle.clap.specs.declared.builder.action.ArgAction.{ArgAction}

abbrev pub HasOne : Kinds → Type 0
HasOne [] = ⊤
HasOne (k ∷ []) = ⊤
HasOne (k ∷ (l ∷ more)) = ⊥

or_one : (a b : Kinds) → HasOne a → HasOne b → HasOne (or_else a b)
or_one a b p q = grind arith

if_one : (c : Bool) (a b : Kinds) → HasOne a → HasOne b → HasOne (if c then a else b)
if_one c a b p q = grind arith

maybe_one : {X : Type 0} (f : X → Kinds) (o : Option X) (otherwise : Kinds) → ((x : X) → HasOne (f x))
    → HasOne otherwise → HasOne (option_map_or f o otherwise)
maybe_one f o otherwise all none = grind arith

value_one : (ignore_case : Bool) (p : ValueParser) (text : Text) → HasOne (value_kinds ignore_case p text)
value_one ignore_case p text = if_one (accepts ignore_case p text) _ _ tt tt

values_one : (ignore_case : Bool) (p : ValueParser) (texts : List Text) → HasOne (values_kinds ignore_case p texts)
values_one ignore_case p [] = tt
values_one ignore_case p (v ∷ vs) =
    or_one (value_kinds ignore_case p v) _ (value_one ignore_case p v) (values_one ignore_case p vs)

action_one : (x : ArgAction) (again : Bool) (a : Rule) (values : List Text) (rows : List Row)
    → HasOne (action_fault x again a values rows)
action_one x again a values rows = grind (arith, values_one, value_one, min, or_one, if_one)

use_one : (again : Bool) (a : Rule) (values : List Text) (rows : List Row) → HasOne (use_fault again a values rows)
use_one again a values rows = grind (arith, or_one, if_one, nat_lt, action_one)

module _ (c : List Rule) (again : Bool) where
  settle_one : (h : Held) → HasOne (settle_fault c again h)
  settle_one h = grind (arith, maybe_one, use_one)

  react_one : (a : Rule) (values : List Text) (h : Held) → HasOne (react_fault c again a values h)
  react_one a values h = or_one (settle_fault c again h) _ (settle_one h) (use_one again a values (settled c h).rows)

  option_one : (a : Rule) (v : Option Text) (h : Held) → HasOne (option_fault c again a v h)
  option_one a (Some v) h = react_one a (v ∷ []) h
  option_one a None h = settle_one h

  long_one : (a : Option Rule) (v : Option Text) (h : Held) → HasOne (long_fault c again a v h)
  long_one None v h = tt
  long_one (Some a) v h = if_one (takes_values a) _ _ (option_one a v h) (if_one (is_some v) _ _ tt (react_one a [] h))

  short_one : (a : Option Rule) (rest : Text) (h : Held) (more : Held → Kinds) → ((g : Held) → HasOne (more g))
      → HasOne (short_fault c again a rest h more)
  short_one None rest h more all = tt
  short_one (Some a) rest h more all =
      if_one (takes_values a) _ _ (option_one a (attached_value rest) h)
      (or_one (react_fault c again a [] h) _ (react_one a [] h) (all (reacted c a [] h)))

  bundle_step_one : (o : Option ℕ) (flags : Text) (skip : ℕ) (h : Held) (more : Text → ℕ → Held → Kinds)
      → ((t : Text) (n : ℕ) (g : Held) → HasOne (more t n g)) → HasOne (bundle_step_fault c again o flags skip h more)
  bundle_step_one o flags skip h more all = grind (arith, short_one)

  flags_one : (k : ℕ) (flags : Text) (skip : ℕ) (h : Held) → HasOne (flags_fault c again k flags skip h)
  unfolding flags_fault
  flags_one zero flags skip h = tt
  flags_one (suc k) flags skip h =
      bundle_step_one (slice_get (chars flags) 0) flags skip h (flags_fault c again k) (λ t n g. flags_one k t n g)

  flag_word_one : (p : Option (Text × Option Text)) (word : Text) (h : Held) → HasOne (flag_word_fault c again p word h)
  flag_word_one p word h = grind (arith, long_one, maybe_one, flags_one)

module _ (s : Shape) (leaf : s.is_leaf ≡ true) where
  other_one : (word : Text) (h : Held) → HasOne (other_fault s None word h)
  other_one word h =
      if_one (bytes_eq word (45 ∷ 45 ∷ [])) _ _ tt (flag_word_one s.rules s.args_override_self (long_of word) word h)

  word_one : (is_trailing : Bool) (waiting : Waiting) (word : Text) (h : Held)
      → HasOne (word_fault s [] is_trailing waiting word h)
  word_one is_trailing idle word h = if_one is_trailing _ _ tt (other_one word h)
  word_one is_trailing _ word h = if_one is_trailing _ _ tt (other_one word h)

  turn_one : (w : Walk) (word : Text) → HasOne (turn_fault s [] w word)
  turn_one w word = grind (arith, if_one, or_one, word_one, maybe_one, settle_one)

  walk_one : (w : Walk) (words : List Text) → HasOne (walk_fault s [] w words)
  unfolding walk_fault
  walk_one w [] = tt
  walk_one w (word ∷ rest) =
      or_one (turn_fault s [] w word) _ (turn_one w word) (walk_one (walked s.rules [] w word) rest)

default_one : (rows : List Row) (a : Rule) → HasOne (default_fault rows a)
default_one rows a = grind (arith, if_one, or_one, values_one)

derefusals_one : (rows : List Row) (rules : List Rule) → HasOne (defaults_fault rows rules)
unfolding defaults_fault
derefusals_one rows [] = tt
derefusals_one rows (a ∷ rest) =
    or_one (default_fault rows a) _ (default_one rows a) (derefusals_one (with_default rows a) rest)

built_one : (top : Shape) (subs : List Shape) (words : List Text) → subs ≡ [] → top.is_leaf ≡ true
    → HasOne (built_fault (record { top = top; subs = subs }) nothing_held words)
built_one top subs words none leaf = grind (arith, maybe_one, or_one, if_one, walk_one, settle_one, derefusals_one)

-- the words of a command without subcommands are refused for one reason at most
pub fault_one : (app : App) (words : List Text) → (built app).subs ≡ [] → (built app).top.is_leaf ≡ true
    → HasOne (fault_of app words)
fault_one app words none leaf = built_one (built app).top (built app).subs (argument_words app words) none leaf

-- What a tree means that lists something else than it has.
use Rattle.std.specs.Prelude.{false, Option, None, Some}
use Rattle.bag_tree.specs.Tree.{TreeState}
use Rattle.bag_tree.specs.declared.answer.Answer.{Answer}
use Rattle.bag_tree.specs.declared.listing.Listing.{Listing}

-- the last answer, of the tree below where that was asked
abbrev pub last_answer : Option Answer → Answer → Answer
last_answer None below = below
last_answer (Some own) below = own

-- what the tree below means, but that it isn't honest, and for the last answer and what was listed
abbrev pub skewed : TreeState → Option Answer → Option Listing → TreeState
skewed below own listing = record {
  bag = below.bag;
  plain = below.plain;
  honest = false;
  entries = below.entries;
  failures = below.failures;
  openings = below.openings;
  listed = listing;
  gave = below.gave;
  rest = below.rest;
  given = below.given;
  last = last_answer own below.last;
  trail = below.trail;
  noted = below.noted;
}

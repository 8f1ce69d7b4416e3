use Rattle.std.proofs.Common.{sym}
use Rattle.std.proofs.lemmas.Bool.{false≢true}
use Rattle.cbor_edn_core.proofs.text.grammar.entries.push_entry.Goals as goal

pub returns-clause-pushed : goal.returns-clause-pushed
returns-clause-pushed g c = record {
  separator = c.in-Some.separator;
  items = c.in_ok-append.ensures.appended;
  same = c.in-Some.ensures.same;
  not_empty = λ e. false≢true (sym (c.in-Some.ensures.none.1 e));
  borrowed = c.in-Some.ensures.borrowed;
}

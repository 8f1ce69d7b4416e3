use Rattle.cbor_edn_parts.proofs.lemmas.string.Quoted.{split_found, split_whole}
use Rattle.cbor_edn_parts.proofs.string.Quote.split_plain.Goals as goal

pub returns-in-Some-clause-bytes : goal.returns-in-Some-clause-bytes
returns-in-Some-clause-bytes c = rw (c.split_at.ensures.front, c.split_at.ensures.back) (split_found c.args.self c.args.text.now _ c.in-Some.ensures)

pub returns-in-None-clause-bytes : goal.returns-in-None-clause-bytes
returns-in-None-clause-bytes c = rw (c.split_at-in-None.ensures.front, c.split_at-in-None.ensures.back) (split_whole c.args.self c.args.text.now c.in-None.ensures)

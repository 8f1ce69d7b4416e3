use Rattle.std.proofs.Common.{refl, sym}
use Rattle.std.proofs.lemmas.Bool.{false≢true}
use Rattle.cbor_edn_core.proofs.lemmas.access.Loans.{no_tag}
use Rattle.cbor_edn_core.proofs.tree.InnerItemOf.tagged_mut.Goals as goal

pub returns-in_default : goal.returns-in_default
returns-in_default g c = (
  (refl, λ w ok. absurd (false≢true ok), refl),
  record {
    lent = tt;
    found = λ leaves. no_tag leaves c.args.self.now c.in_default.not-Enclosed;
    refused = (refl, λ leaves. sym (no_tag leaves c.args.self.now c.in_default.not-Enclosed));
  },
)

use Rattle.std.proofs.Common.{length}
use Rattle.cbor_edn_files_tests.proofs.memory.+bytes_behind.Given as goal

abbrev pub decreases-bytes_behind : goal.decreases-bytes_behind
decreases-bytes_behind l = length l.changes.now

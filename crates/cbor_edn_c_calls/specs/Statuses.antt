-- The numbers that say how a call ended.
use Rattle.std.specs.Prelude.{ℕ}
use Rattle.cbor_edn_parts.specs.base.Errors.{error_kind}
use Rattle.cbor_edn_parts.specs.declared.base.error.ParseError.{ParseError}
use Rattle.cbor_edn_parts.specs.declared.base.error.ParseErrorKind.{ParseErrorKind}
use Rattle.cbor_edn_parts.specs.declared.base.error.ParseErrorKind.TheVariants.{Invalid, TooDeep}
use Rattle.cbor_edn_c_calls.specs.declared.status.CallFault.{CallFault}
use Rattle.cbor_edn_c_calls.specs.declared.status.CallFault.TheVariants as fault
use Rattle.cbor_edn_c_calls.specs.declared.status.Status.{Status}
use Rattle.cbor_edn_c_calls.specs.declared.status.Status.TheVariants.{Done, NoRoom, BadCall, Fault}

-- The fault of a text that is refused so: of its nesting alone, or of anything else.
abbrev pub text_fault_by : ParseErrorKind → CallFault
text_fault_by Invalid = fault.InvalidText
text_fault_by TooDeep = fault.TooDeep

abbrev pub text_fault : ParseError → CallFault
text_fault e = text_fault_by (error_kind e)

abbrev pub fault_number : CallFault → ℕ
fault_number fault.NotUtf8 = 3
fault_number fault.InvalidText = 4
fault_number fault.InvalidCbor = 5
fault_number fault.InvalidHex = 6
fault_number fault.NoEncoding = 7
fault_number fault.OutOfMemory = 8
fault_number fault.TooDeep = 9

abbrev pub status_number : Status → ℕ
status_number Done = 0
status_number NoRoom = 1
status_number BadCall = 2
status_number (Fault f) = fault_number f

-- The faults in numbers, bytes and text are faults of a line. Assumes nothing.
use Rattle.case_text.specs.declared.fault.Fault.{Fault as TextFault}
use Rattle.case_text.specs.declared.fault.Fault.TheVariants as text
use Rattle.case_text.specs.declared.fault.Stop.{Stop as TextStop}
use Rattle.case_script.specs.declared.fault.Fault.{Fault}
use Rattle.case_script.specs.declared.fault.Fault.TheVariants as line
use Rattle.case_script.specs.declared.fault.Stop.{Stop}

abbrev pub fault_of : TextFault → Fault
fault_of text.NumberExpected = line.NumberExpected
fault_of text.NumberTooLarge = line.NumberTooLarge
fault_of text.ByteExpected = line.ByteExpected
fault_of text.TooManyBytes = line.TooManyBytes
fault_of text.NoEscape = line.NoEscape

abbrev pub stop_of : TextStop → Stop
stop_of s = record { why = fault_of s.why; at = s.at }

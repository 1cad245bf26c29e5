-- The statuses of the program, and the lines of its faults.
use Rattle.std.specs.Prelude.{ℕ, List, [], ◌∷◌, ◌++◌, Option, Some, None, codes, decimal, option_map}
use Rattle.crew_serve.specs.crew_session.declared.fault.SessionFault.{SessionFault}
use Rattle.crew_serve.specs.crew_session.declared.fault.SessionFault.TheVariants as session
use Rattle.crew_command.specs.declared.fault.Fault.{Fault}
use Rattle.crew_command.specs.declared.fault.Fault.TheVariants.{Read, Write, Usage, Word, Memory, Setting, Strange}

-- the fault that a session's fault is
abbrev pub fault_of : SessionFault → Fault
fault_of session.Read = Read
fault_of session.Write = Write
fault_of session.Memory = Memory
fault_of (session.Strange number) = Strange

-- the status with which the program ends
abbrev pub status_of : Fault → ℕ
status_of Read = 1
status_of Write = 1
status_of (Usage error) = 2
status_of Word = 2
status_of Memory = 3
status_of (Setting bad) = 4
status_of Strange = 5

-- what a fault is called; the text of a fault in the words is the parser's own
abbrev pub text_of : Fault → Option (List ℕ)
text_of Read = Some (codes "read fault")
text_of Write = Some (codes "write fault")
text_of (Usage error) = None
text_of Word = Some (codes "a word is not UTF-8")
text_of Memory = Some (codes "out of memory")
text_of (Setting bad) = Some (codes "bad setting " ++ decimal bad.field)
text_of Strange = Some (codes "strange log")

-- the line of a fault
abbrev pub line_of : Fault → Option (List ℕ)
line_of fault = option_map (λ text. codes "crewprice: " ++ text ++ 10 ∷ []) (text_of fault)

-- the same of a setting that is out of its range, by the text of its number
abbrev pub bad_line : List ℕ → List ℕ
bad_line number = codes "crewprice: " ++ (codes "bad setting " ++ number) ++ 10 ∷ []

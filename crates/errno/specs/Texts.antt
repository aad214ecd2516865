-- How errnos, causes and errors print.
use Rattle.std.specs.Prelude.{ℕ, List, ◌++◌, codes, decimal}
use Rattle.errno.specs.declared.Errno.{Errno as Told}
use Rattle.errno.specs.declared.TrapCause.{TrapCause}
use Rattle.errno.specs.declared.TrapCause.TheVariants.{Pointer, Drop}
use Rattle.errno.specs.declared.Error.{Error}
use Rattle.errno.specs.declared.Error.TheVariants.{Errno, Trap}
use Rattle.errno.specs.Numbers.{errno_number}

abbrev pub errno_text : Told → List ℕ
errno_text told = codes "errno " ++ decimal (errno_number told)

abbrev pub cause_text : TrapCause → List ℕ
cause_text Pointer = codes "trap pointer"
cause_text Drop = codes "trap drop"

abbrev pub error_text : Error → List ℕ
error_text (Errno told) = errno_text told
error_text (Trap cause) = cause_text cause

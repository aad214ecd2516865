-- The numbers that witx gives the errnos, and the errno of each of a host's codes.
use Rattle.std.specs.Prelude.{ℕ}
use Rattle.errno.specs.declared.Errno.{Errno}
use Rattle.errno.specs.declared.Errno.TheVariants as errnos
use Rattle.errno.specs.declared.ErrorCode.{ErrorCode}
use Rattle.errno.specs.declared.ErrorCode.TheVariants as codes

abbrev pub errno_number : Errno → ℕ
errno_number errnos.Success = 0
errno_number errnos.Acces = 2
errno_number errnos.Badf = 8
errno_number errnos.Exist = 20
errno_number errnos.Fbig = 22
errno_number errnos.Ilseq = 25
errno_number errnos.Intr = 27
errno_number errnos.Inval = 28
errno_number errnos.Io = 29
errno_number errnos.Isdir = 31
errno_number errnos.Mfile = 33
errno_number errnos.Nametoolong = 37
errno_number errnos.Noent = 44
errno_number errnos.Nomem = 48
errno_number errnos.Nospc = 51
errno_number errnos.Notdir = 54
errno_number errnos.Notsup = 58
errno_number errnos.Overflow = 61
errno_number errnos.Perm = 63
errno_number errnos.Rofs = 69
errno_number errnos.Spipe = 70

-- the errno that a guest is told where a host refuses with a code
abbrev pub errno_of : ErrorCode → Errno
errno_of codes.Access = errnos.Acces
errno_of codes.BadDescriptor = errnos.Badf
errno_of codes.Exist = errnos.Exist
errno_of codes.FileTooLarge = errnos.Fbig
errno_of codes.Interrupted = errnos.Intr
errno_of codes.Io = errnos.Io
errno_of codes.IsDirectory = errnos.Isdir
errno_of codes.NoEntry = errnos.Noent
errno_of codes.InsufficientSpace = errnos.Nospc
errno_of codes.NotDirectory = errnos.Notdir
errno_of codes.Unsupported = errnos.Notsup
errno_of codes.NotPermitted = errnos.Perm
errno_of codes.ReadOnly = errnos.Rofs

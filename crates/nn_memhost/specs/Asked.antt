-- The calls on a directory as the model of a host has them.
use Rattle.nn_host.specs.Disk.{Call, Look, MakeSub, MakeFile, Append, Sync, RenameFile, RenameSub, RemoveFile, RemoveSub, Settle}
use Rattle.nn_memhost.specs.declared.asked.Asked.{Asked}
use Rattle.nn_memhost.specs.declared.asked.Asked.TheVariants as asked

abbrev pub call_of : Asked → Call
call_of asked.Look = Look
call_of (asked.MakeSub s) = MakeSub s
call_of (asked.MakeFile s n) = MakeFile s n
call_of (asked.Append s n bytes) = Append s n bytes.items
call_of (asked.Sync s n) = Sync s n
call_of (asked.RenameFile s a b) = RenameFile s a b
call_of (asked.RenameSub a b) = RenameSub a b
call_of (asked.RemoveFile s n) = RemoveFile s n
call_of (asked.RemoveSub s) = RemoveSub s
call_of asked.Settle = Settle

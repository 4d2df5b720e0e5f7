use Rattle.disk_file.proofs.Pasts.{elapses_to}
use Rattle.disk_file.proofs.file_device.FileDeviceCrashableFile.cut.Goals as goal

pub returns-clause-time : goal.returns-clause-time
returns-clause-time c =
    elapses_to c.args.self.now.past.contents c.add-2.new.self.contents c.deref.result.now c.args.self.now.bytes.items c.truncate.new.self.items c.deref.ensures.value c.add-2.ensures

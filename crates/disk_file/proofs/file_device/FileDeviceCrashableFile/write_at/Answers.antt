use Rattle.disk_file.proofs.Pasts.{elapses_to}
use Rattle.disk_file.proofs.file_device.FileDeviceCrashableFile.write_at.Goals as goal

pub returns-in_err-lengthen-clause-time : goal.returns-in_err-lengthen-clause-time
returns-in_err-lengthen-clause-time c =
    elapses_to c.args.self.now.past.contents c.add.new.self.contents c.deref.result.now c.args.self.now.bytes.items c.lengthen.new.bytes.items c.deref.ensures.value c.add.ensures

pub returns-then-is_err-clause-time : goal.returns-then-is_err-clause-time
returns-then-is_err-clause-time c =
    elapses_to c.args.self.now.past.contents c.add.new.self.contents c.deref.result.now c.args.self.now.bytes.items c.truncate.new.self.items c.deref.ensures.value c.add.ensures

pub returns-clause-time : goal.returns-clause-time
returns-clause-time c =
    elapses_to c.args.self.now.past.contents c.add.new.self.contents c.deref.result.now c.args.self.now.bytes.items c.write_over.new.bytes.items c.deref.ensures.value c.add.ensures

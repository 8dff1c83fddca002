use Rattle.pfc_config.specs.Words.{words_of}
use Rattle.pfc_config.specs.declared.directive.Directive.TheVariants.{BlockSize, Ram, Prefetch, WriteQueue, Flush, DiskUsage}
use Rattle.pfc_config.proofs.Names.{takes_mapped}
use Rattle.pfc_config.proofs.setting.read_args.Goals as goal

pub returns-in-BlockSize : goal.returns-in-BlockSize
returns-in-BlockSize c = rw c.in-BlockSize.is (takes_mapped c.args.capacity BlockSize (words_of c.args.args.now) c.block_size.result c.map.result c.block_size.ensures c.map.ensures.cases)

pub returns-in-Ram : goal.returns-in-Ram
returns-in-Ram c = rw c.in-Ram.is (takes_mapped c.args.capacity Ram (words_of c.args.args.now) c.ram.result c.map-in-Ram.result c.ram.ensures c.map-in-Ram.ensures.cases)

pub returns-in-Prefetch : goal.returns-in-Prefetch
returns-in-Prefetch c = rw c.in-Prefetch.is (takes_mapped c.args.capacity Prefetch (words_of c.args.args.now) c.prefetch.result c.map-in-Prefetch.result c.prefetch.ensures c.map-in-Prefetch.ensures.cases)

pub returns-in-WriteQueue : goal.returns-in-WriteQueue
returns-in-WriteQueue c = rw c.in-WriteQueue.is (takes_mapped c.args.capacity WriteQueue (words_of c.args.args.now) c.write_queue.result c.map-in-WriteQueue.result c.write_queue.ensures c.map-in-WriteQueue.ensures.cases)

pub returns-in-Flush : goal.returns-in-Flush
returns-in-Flush c = rw c.in-Flush.is (takes_mapped c.args.capacity Flush (words_of c.args.args.now) c.flush.result c.map-in-Flush.result c.flush.ensures c.map-in-Flush.ensures.cases)

pub returns-in-DiskUsage : goal.returns-in-DiskUsage
returns-in-DiskUsage c = rw c.in-DiskUsage.is (takes_mapped c.args.capacity DiskUsage (words_of c.args.args.now) c.disk_usage.result c.map-in-DiskUsage.result c.disk_usage.ensures c.map-in-DiskUsage.ensures.cases)

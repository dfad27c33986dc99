-- Every bench value, from the definitions.
use mathlib.Core.Path.{refl}
use Rattle.fields.specs.Fields.{digits, put_digits}
use Rattle.reply.specs.Capability.{read_into}
use Rattle.layout.specs.Layout.{first_pow, tables_from, spot_of, sort_into, comparisons_into, place_from, total_of, first_bad, table_in}
use Rattle.bars.specs.Bars.{bars}
use Rattle.bars.specs.Resource.{walk}
use Rattle.dma.specs.Blocks.{highest, blocks_from}
use Rattle.dma.specs.Pages.{table, split_by}
use Rattle.bench.specs.Bench.{AllHold, bench}

pub bench_holds : AllHold bench
unfolding digits put_digits read_into first_pow tables_from spot_of sort_into comparisons_into place_from total_of first_bad table_in highest blocks_from table split_by bars walk
bench_holds =
    (refl, (refl, (refl, (refl, (refl, (refl, (refl, (refl, (refl, ((refl, refl), ((refl, refl), ((refl, refl), ((refl, refl), (refl, (refl, (refl, (refl, (refl, (refl, (refl, (refl, (refl, (refl, (refl, (refl, (refl, (refl, (refl, (refl, (refl, (refl, (refl, (refl, (refl, (refl, (refl, tt))))))))))))))))))))))))))))))))))))

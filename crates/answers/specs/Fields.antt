-- The byte order that a flag names.
use Rattle.std.specs.Prelude.{Bool, true, false}
use Rattle.fields.specs.declared.Order.{Order}
use Rattle.fields.specs.declared.Order.TheVariants.{Big, Little}

abbrev pub order_of : (little : Bool) → Order
order_of true = Little
order_of false = Big

pub mod AllowedRows
